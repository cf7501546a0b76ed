-- `simulator::play` meets its contract. Assumes nothing.
use mathlib.Core.Path.{◌∙◌}
use Rattle.simulator.proofs.StepLaws.{ring_refused, ring_played}
use Rattle.simulator.proofs.play.Goals as goal

pub returns-in-Err : goal.returns-in-Err
returns-in-Err c = c.refused.ensures ∙ ring_refused _ _ _ _ c.requires _ c.event_at-event.ensures _ c.step-after.ensures _ c.in-Err.is

pub returns-in-Ok : goal.returns-in-Ok
returns-in-Ok c = ring_played _ _ _ _ c.requires _ c.event_at-event.ensures _ c.step-after.ensures _ _ c.in-Ok.is c.is_start-started.ensures c.position_after-next.ensures
