-- `loops::plan_of` meets its contract. Assumes nothing.
use mathlib.Core.Path.{refl}
use Rattle.loops.proofs.PlanLaws.{plan_is}
use Rattle.loops.proofs.plan_of.Goals as goal

pub returns : goal.returns
returns c = plan_is _ _ _ _ _ c.requires refl c.turned-latencies.ensures
