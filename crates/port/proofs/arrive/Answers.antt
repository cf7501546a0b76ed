-- `port::arrive` meets its contract: the records are copied out, the call is made on them, and they are copied back. Assumes nothing.
use Prim.Native.Nat.{ℕ}
use mathlib.Core.Path.{ap, ap₂, ◌∙◌}
use mathlib.Core.List.{List}
use lib.ListN.{length}
use Rattle.queue.specs.declared.Waiting.{Waiting}
use Rattle.callers.specs.Parts.{arrival_in, arrival_on_by}
use Rattle.port.specs.Inner.{loaded_of, stored_of}
use Rattle.port.proofs.LentLaws.{arrival_lent}
use Rattle.port.proofs.arrive.Goals as goal

pub returns : goal.returns
returns c =
    let a = c.args in
    let ys = a.list.now in
    let same = c.load-records.ensures.1 in
    let held = c.load-records.ensures.0 ∙ ap (loaded_of ys) c.reach-n.ensures in
    let lent = arrival_lent a.u a.callers a.caller ys a.count a.offered c.arriving-after.result
    (c.arriving-after.ensures
    ∙ ap₂ (λ (k : ℕ) (l : List Waiting). arrival_on_by a.caller l a.count a.offered (arrival_in a.u a.callers a.caller k l a.count a.offered.tag)) (ap length same) held) in (
      lent.0,
      c.store.ensures ∙ ap₂ (λ (l : List Waiting) (k : ℕ). stored_of l c.arriving-after.result.records.list k) same c.reach-n.ensures ∙ lent.1,
    )
