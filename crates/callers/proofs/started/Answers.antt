-- `callers::started` meets its contract: the queue is moved up, and the turn goes on by the counts that are left. Assumes nothing.
use Rattle.std.proofs.Common.{Ok, Some}
use Prim.Native.Nat.{ℕ, ◌-◌}
use mathlib.Core.Path.{◌≡◌, ap, ◌∙◌}
use mathlib.Core.List.{◌++◌}
use lib.ListN.{length, take, drop}
use native.Mathlib.Omega.{arith}
use borrow.Author.Rules.{rules}
use Rattle.queue.specs.Line.{forward}
use Rattle.callers.specs.Queues.{count_of, with_count}
use Rattle.callers.proofs.PartLaws.{copied_forward, forward_part}
use Rattle.callers.proofs.started.Goals as goal

pub returns : goal.returns
returns c =
    let a = c.args in
    let n = count_of a.counts.each a.caller in
    let full : length a.records.list ≡ 32 = search rules in
    λ i. record {
      turned = record {
        answer = Ok (Some (a.caller, a.first));
        bank = a.bank;
        turn = c.next_turn-next.ensures i;
        counts = record { each = with_count a.counts.each a.caller (n - 1) };
      };
      records = record {
        list = (copied_forward _ _ _ _ c.requires.1 c.copy_within.ensures.after
            ∙ ap (λ (k : ℕ). take k a.records.list ++ forward (drop k a.records.list) n) c.place_of-start.ensures
            ∙ forward_part a.records.list a.caller (omega (arith, c.requires.0.most, c.requires.0.few)) n c.requires.1 c.requires.2) i;
      };
    }
