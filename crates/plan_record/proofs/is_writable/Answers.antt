-- `plan_record::is_writable` meets its contract. Assumes nothing.
use mathlib.Core.Path.{sym, ◌∙◌}
use Rattle.plan_record.proofs.PlanLaws.{writable_none, writable_held}
use Rattle.plan_record.proofs.is_writable.Goals as goal

pub returns-then-plan-eq0 : goal.returns-then-plan-eq0
returns-then-plan-eq0 c = sym (writable_none _ c.if-plan-eq0.true)

pub returns : goal.returns
returns c = c.holds_cycle.ensures ∙ sym (writable_held _ c.if-plan-eq0.false)
