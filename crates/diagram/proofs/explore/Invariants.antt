-- `diagram::explore` meets its contract: the states that are left lead to the list of all states. Assumes nothing.
use Prim.Native.Nat.{◌-◌}
use Rattle.diagram.proofs.EnlistLaws.{Exploring}
use Rattle.diagram.proofs.explore.Given as goal

abbrev pub invariant-loop-at : goal.invariant-loop-at
invariant-loop-at l = Exploring l.initial.work l.work l.vector l.columns l.count l.at

abbrev pub decreases-loop-at : goal.decreases-loop-at
decreases-loop-at l = 256 - l.at
