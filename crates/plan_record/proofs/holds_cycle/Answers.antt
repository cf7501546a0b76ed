-- `plan_record::holds_cycle` meets its contract: its tests in turn. Assumes nothing.
use mathlib.Core.Path.{◌≡◌, ◌∙◌, sym}
use native.Mathlib.Omega.{arith}
use borrow.Author.Rules.{rules}
use lib.ListN.{length}
use lib.Seq.{length-take-le}
use Rattle.words.proofs.Tests.{nowhere}
use Rattle.plan_record.proofs.CycleLaws.{recordable_of, summed_cycle, summed_none}
use Rattle.plan_record.proofs.PlanLaws.{no_held, zero_part, held_rest}
use Rattle.plan_record.proofs.holds_cycle.Goals as goal

pub returns-then-count-gt256 : goal.returns-then-count-gt256
returns-then-count-gt256 c = sym (no_held _ (λ h. omega (arith, h.holds.count, h.cycle.few, c.if-count-gt256.true)))

pub slice_bounds-latencies-end : goal.slice_bounds-latencies-end
slice_bounds-latencies-end c =
    let p = c.args.plan in
    let n : length p.latencies ≡ 256 = search rules in
    omega (arith, c.if-count-gt256.false)

pub slice_bounds-cycle_sum-end : goal.slice_bounds-cycle_sum-end
slice_bounds-cycle_sum-end c =
    let p = c.args.plan in
    let n : length p.latencies ≡ 256 = search rules in
    sym (length-take-le p.count p.latencies (omega (arith, c.if-count-gt256.false)))

pub returns-then-adds-eq0 : goal.returns-then-adds-eq0
returns-then-adds-eq0 c = sym (no_held _ (λ h. nowhere (sym (summed_none _ _ c.cycle_sum-adds.ensures c.if-adds-eq0.true) ∙ recordable_of _ h.cycle)))

pub returns-then-adds-plan : goal.returns-then-adds-plan
returns-then-adds-plan c =
    sym (no_held _ (λ h. c.if-adds-plan.true ((summed_cycle _ _ c.cycle_sum-adds.ensures c.if-adds-eq0.false).1 ∙ sym h.holds.sum)))

pub slice_bounds-all_zero-end : goal.slice_bounds-all_zero-end
slice_bounds-all_zero-end c = let n : length c.args.plan.latencies ≡ 256 = search rules in omega (arith, n)

pub returns : goal.returns
returns c =
    let p = c.args.plan in
    let n : length p.latencies ≡ 256 = search rules in
    let e = summed_cycle _ _ c.cycle_sum-adds.ensures c.if-adds-eq0.false in
    c.all_zero.ensures ∙ zero_part p.count p.latencies n ∙ sym (held_rest p n c.if-count-gt256.false e.0 (sym c.if-adds-plan.false ∙ e.1))
