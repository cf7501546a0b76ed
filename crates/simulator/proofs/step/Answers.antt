-- `simulator::step` meets its contract. Assumes nothing.
use mathlib.Core.Path.{sym, ap₂, ◌∙◌}
use Rattle.unit.specs.Calls.{and_then}
use Rattle.simulator.proofs.StepLaws.{step_refused, step_ready}
use Rattle.simulator.proofs.step.Goals as goal

pub play-requires : goal.play-requires
play-requires c = step_ready _ _ _ c.args.bank (ap₂ and_then (sym c.check_tag-known.ensures) (sym c.check_ring-ring.ensures) ∙ sym c.and_then-ready.ensures ∙ c.in-Ok.is)

pub returns-in-Err : goal.returns-in-Err
returns-in-Err c = c.refused.ensures ∙ step_refused _ _ _ _ _ (ap₂ and_then (sym c.check_tag-known.ensures) (sym c.check_ring-ring.ensures) ∙ sym c.and_then-ready.ensures ∙ c.in-Err.is)
