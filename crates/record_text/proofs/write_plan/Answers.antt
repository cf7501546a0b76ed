-- `record_text::write_plan` meets its contract. Assumes nothing.
use mathlib.Core.Path.{sym}
use Rattle.unit.proofs.Exits.{handed_on}
use Rattle.record_text.proofs.RecordLaws.{plan_refused, plan_written}
use Rattle.record_text.proofs.write_plan.Goals as goal

pub returns-in_err-plan : goal.returns-in_err-plan
returns-in_err-plan c =
    let facts = plan_refused _ _ _ (sym c.in_err-plan.ensures) in
    record { value = handed_on c.from_residual.ensures.1 facts.0; out_after = facts.1 }

pub returns : goal.returns
returns c =
    let facts = plan_written _ _ _ _ _ (sym c.in_ok-plan.ensures) (c.write.ensures.value, c.write.ensures.out_after) in
    record { value = facts.0; out_after = facts.1 }
