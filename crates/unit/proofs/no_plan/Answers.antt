-- `unit::no_plan` meets its contract. Assumes nothing.
use mathlib.Core.Path.{refl}
use Rattle.unit.specs.Calls.{no_plan}
use Rattle.unit.proofs.no_plan.Goals as goal

pub returns : goal.returns
unfolding no_plan
returns c = refl
