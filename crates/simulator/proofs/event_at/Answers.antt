-- `simulator::event_at` meets its contract. Assumes nothing.
use mathlib.Core.Path.{◌≡◌, ◌∙◌, sym}
use native.Mathlib.Omega.{arith}
use borrow.Author.Rules.{rules}
use lib.ListN.{length}
use Rattle.plan_record.proofs.PlanLaws.{held}
use Rattle.simulator.proofs.StepLaws.{event_start, event_tick}
use Rattle.simulator.proofs.event_at.Goals as goal

pub slice_bounds-latencies-end : goal.slice_bounds-latencies-end
slice_bounds-latencies-end c =
    let p = c.args.plan in
    let n : length p.latencies ≡ 256 = search rules in
    let h = held p c.requires.holds in
    omega (arith, h.holds.count, h.cycle.few)

pub slice_bounds-starts_at-end : goal.slice_bounds-starts_at-end
slice_bounds-starts_at-end c = (held c.args.plan c.requires.holds).holds.count

pub starts_at-requires : goal.starts_at-requires
starts_at-requires c =
    let h = held c.args.plan c.requires.holds in
    (h.cycle, omega (arith, c.requires.before, h.holds.sum))

pub returns-then-starts_at : goal.returns-then-starts_at
returns-then-starts_at c = event_start c.args.plan c.args.position c.requires (sym c.starts_at.ensures ∙ c.if-starts_at.true)

pub returns : goal.returns
returns c = event_tick c.args.plan c.args.position c.requires (sym c.starts_at.ensures ∙ c.if-starts_at.false)
