-- `console::tell_plan` meets its contract: by what the read hands out. Assumes nothing.
use mathlib.Core.Path.{sym}
use Rattle.console.proofs.SessionLaws.{read_few, plan_refused, plan_told}
use Rattle.console.proofs.tell_plan.Goals as goal

pub put_plan-end-requires : goal.put_plan-end-requires
put_plan-end-requires c = read_few _ (sym c.in-Ok.ensures)

pub returns-in-Err : goal.returns-in-Err
returns-in-Err c = plan_refused (sym c.in-Err.ensures) c.put_answer-end.ensures

pub returns-in-Ok : goal.returns-in-Ok
returns-in-Ok c = plan_told (sym c.in-Ok.ensures) c.put_plan-end.ensures
