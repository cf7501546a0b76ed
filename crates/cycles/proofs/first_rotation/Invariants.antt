-- `cycles::first_rotation` meets its contract: of the rotations tried, this one comes first. Assumes nothing.
use Rattle.cycles.proofs.OrderLaws.{Leading}
use Rattle.cycles.proofs.first_rotation.Given as goal

abbrev pub invariant-loop-rotation : goal.invariant-loop-rotation
invariant-loop-rotation l = Leading l.cycle l.first l.rotation
