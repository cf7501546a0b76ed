-- `chart::check_plan` meets its contract. Assumes nothing.
use mathlib.Core.Path.{sym, ◌∙◌}
use Rattle.chart.proofs.ChartLaws.{ready_plan, plan_unknown, plan_bad}
use Rattle.unit.proofs.Exits.{handed_on}
use Rattle.chart.proofs.check_plan.Goals as goal

pub returns-then-holds_cycle : goal.returns-then-holds_cycle
returns-then-holds_cycle c = ready_plan _ _ (record { tag = sym c.check_tag.ensures ∙ c.in_ok-check_tag.was; holds = sym c.holds_cycle.ensures ∙ c.if-holds_cycle.true })

pub returns-in_err-check_tag : goal.returns-in_err-check_tag
returns-in_err-check_tag c = handed_on c.from_residual.ensures.1 (plan_unknown _ _ _ (sym c.check_tag.ensures ∙ c.in_err-check_tag.was))

pub returns : goal.returns
returns c = plan_bad _ _ (sym c.check_tag.ensures ∙ c.in_ok-check_tag.was) (sym c.holds_cycle.ensures ∙ c.if-holds_cycle.false)
