-- The best latencies of a loop.
use Rattle.std.specs.Prelude.{◌≡◌, List, ℕ, ◌*◌, ◌≤◌, length}
use Rattle.unit.specs.declared.FunctionUnit.{FunctionUnit}
use Rattle.unit.specs.Unit.{marked}
use Rattle.collision.specs.Pipeline.{total}
use Rattle.graphs.specs.Graph.{CycleAt}
use Rattle.loops.specs.Loop.{Schedule, LoopNeverCollides}
use Rattle.loops.specs.declared.State.{State}
use Rattle.loops.specs.Steps.{loop_graph}

-- latencies whose repetition never collides, in which no state occurs twice; every rival that never collides, of m latencies of any size with
-- sum T, m also a multiple of the list's length, has T × K at least S × m
pub record BestLoop (u : FunctionUnit) (tags l : List ℕ) : Type 0 where
  pub schedule : Schedule tags l
  pub state : State
  pub start : state.position ≡ 0
  pub cycle : CycleAt (loop_graph u tags) state l
  pub never : LoopNeverCollides (marked u) tags l
  pub least : (rival : List ℕ) → Schedule tags rival → LoopNeverCollides (marked u) tags rival → total l * length rival ≤ total rival * length l
