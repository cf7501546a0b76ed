-- `unit::fresh` meets its contract. Assumes nothing.
use mathlib.Core.Path.{sym, ◌∙◌}
use Rattle.unit.specs.Calls.{fresh_of}
use Rattle.unit.proofs.fresh.Goals as goal

pub returns-then-counts : goal.returns-then-counts
unfolding fresh_of
returns-then-counts c = simp (c.no_plan-plan.ensures, sym c.counts.ensures ∙ c.if-counts.true)

pub returns-else-counts : goal.returns-else-counts
unfolding fresh_of
returns-else-counts c = simp (c.no_plan-plan.ensures, sym c.counts.ensures ∙ c.if-counts.false)
