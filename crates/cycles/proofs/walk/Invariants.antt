-- `cycles::walk` meets its contract: each event of the loop is a law of the walk. Assumes nothing.
use Prim.Native.Nat.{◌-◌}
use Rattle.cycles.proofs.WalkLaws.{Walking}
use Rattle.cycles.proofs.walk.Given as goal

abbrev pub invariant-loop-work : goal.invariant-loop-work
invariant-loop-work l = Walking l.initial.work l.work l.vector l.states l.at l.step

abbrev pub decreases-loop-work : goal.decreases-loop-work
decreases-loop-work l = l.states - l.step
