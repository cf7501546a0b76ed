-- `planner::bytes_of` meets its contract. The loop's invariant: the latencies passed stand in front of zeros. Assumes nothing.
use mathlib.Core.Path.{◌≡◌}
use Rattle.diagram.proofs.CopyLaws.{front}
use Rattle.planner.specs.Inner.{found}
use Rattle.planner.proofs.PlanLaws.{zeros}
use Rattle.planner.proofs.bytes_of.Given as goal

abbrev pub invariant-loop-i : goal.invariant-loop-i
invariant-loop-i l = l.bytes ≡ front (found l.work l.count) zeros l.i
