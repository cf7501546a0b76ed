-- `controller::start` meets its contract: a refused start leaves the bank, a granted one has it moved on. Assumes nothing.
use Rattle.std.proofs.Common.{Ok}
use mathlib.Core.Path.{sym, ap, ◌∙◌}
use Rattle.controller.specs.declared.Bank.{Bank}
use Rattle.controller.specs.declared.Event.TheVariants.{Start}
use Rattle.controller.specs.Bank.{moved}
use Rattle.controller.proofs.StepLaws.{step_refused, step_done}
use Rattle.controller.proofs.start.Goals as goal

pub returns-in-Err : goal.returns-in-Err
returns-in-Err c =
    let a = c.args in
    step_refused a.u a.bank (Start a.q) (sym c.check_start-answer.ensures ∙ c.in-Err.is)

pub returns-in-Ok : goal.returns-in-Ok
unfolding moved
returns-in-Ok c =
    let a = c.args in
    ap (λ (b : Bank). record { answer = (Ok tt); bank = b }) c.started_bank-next.ensures
    ∙ step_done a.u a.bank (Start a.q) (sym c.check_start-answer.ensures ∙ c.in-Ok.is)
