-- `function_plan::read_for` meets its contract: the tag's refusal, the read's, or whose the plan is. Assumes nothing.
use mathlib.Core.Path.{sym}
use Rattle.unit.proofs.Exits.{handed_on}
use Rattle.function_plan.proofs.OwnLaws.{tag_refused, held_refused, held_other, held_own}
use Rattle.function_plan.proofs.read_for.Goals as goal

pub returns-in_err-check_tag : goal.returns-in_err-check_tag
returns-in_err-check_tag c = handed_on c.from_residual.ensures.1 (tag_refused _ _ (sym c.in_err-check_tag.ensures))

pub returns-in_err-plan : goal.returns-in_err-plan
returns-in_err-plan c =
    handed_on c.from_residual-in_err-plan.ensures.1 (held_refused _ _ (sym c.in_ok-check_tag.ensures) (sym c.in_err-plan.ensures))

pub returns-then-plan-tag : goal.returns-then-plan-tag
returns-then-plan-tag c = held_other _ _ (sym c.in_ok-check_tag.ensures) (sym c.in_ok-plan.ensures) c.if-plan-tag.true

pub returns : goal.returns
returns c = held_own _ _ (sym c.in_ok-check_tag.ensures) (sym c.in_ok-plan.ensures) c.if-plan-tag.false
