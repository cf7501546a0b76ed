-- `callers::arrival_on` meets its contract: by the tests' answer. Assumes nothing.
use Rattle.std.proofs.Common.{Ok, Err}
use Prim.Native.Nat.{ℕ, ◌+◌}
use mathlib.Core.Path.{◌≡◌, ap, ◌∙◌, sym}
use native.Mathlib.Omega.{arith}
use borrow.Author.Rules.{rules}
use lib.ListN.{length, set}
use Rattle.callers.specs.Parts.{arrival_on_by}
use Rattle.callers.proofs.PartLaws.{parts, set_part}
use Rattle.callers.proofs.TestedLaws.{one_of_lem, arrival_accepted}
use Rattle.callers.proofs.arrival_on.Goals as goal

pub returns-in-Err : goal.returns-in-Err
returns-in-Err c =
    let a = c.args in
    (λ i. record {
      arrival = record { answer = Err c.in-Err.why; count = a.count };
      records = record { list = sym (parts a.records.list a.caller) i };
    })
    ∙ ap (arrival_on_by a.caller a.records.list a.count a.offered) (sym c.in-Err.is ∙ c.check_arrival.ensures)

pub returns : goal.returns
returns c =
    let a = c.args in
    let e = sym c.check_arrival.ensures ∙ c.in_default.is in
    let o = arrival_accepted a.u a.callers a.caller a.length a.records.list a.count a.offered.tag e in
    let q = one_of_lem a.callers a.caller o.caller in
    let full : length a.records.list ≡ 32 = search rules in
    (λ i. record {
      arrival = record { answer = Ok tt; count = a.count + 1 };
      records = record {
        list = (ap (λ (k : ℕ). set a.records.list (k + a.count) a.offered) c.place_of.ensures
            ∙ set_part a.records.list a.caller (omega (arith, q.few, q.most)) a.count a.offered o.few) i;
      };
    })
    ∙ ap (arrival_on_by a.caller a.records.list a.count a.offered) (sym e)
