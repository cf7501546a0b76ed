-- `controller::step` meets its contract: each arm is the answer of its event. Assumes nothing.
use mathlib.Core.Path.{sym, ap, ◌∙◌}
use Rattle.controller.specs.declared.Event.TheVariants.{Tick}
use Rattle.controller.specs.Bank.{step_of}
use Rattle.controller.proofs.StepLaws.{step_both}
use Rattle.controller.proofs.step.Goals as goal

pub returns-in-Tick : goal.returns-in-Tick
returns-in-Tick c =
    let a = c.args in
    step_both a.u a.bank Tick c.ticked.result c.ticked.ensures.0 c.ticked.ensures.1
    ∙ ap (step_of a.u a.bank) (sym c.in-Tick.is)

pub returns-in-Start : goal.returns-in-Start
returns-in-Start c =
    let a = c.args in
    c.start.ensures ∙ ap (step_of a.u a.bank) (sym c.in-Start.is)
