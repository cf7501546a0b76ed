-- `diagram::place` meets its contract: the loop walks the links of the state's bucket, which fall. Assumes nothing.
use Rattle.diagram.proofs.PlaceLaws.{Walking}
use Rattle.diagram.proofs.place.Given as goal

abbrev pub invariant-loop-at : goal.invariant-loop-at
invariant-loop-at l = Walking l.work l.count l.state l.at

abbrev pub decreases-loop-at : goal.decreases-loop-at
decreases-loop-at l = l.at
