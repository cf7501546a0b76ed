-- `loops::turned` meets its contract. The loop's invariant: the latencies passed stand in front of zeros. Assumes nothing.
use mathlib.Core.Path.{◌≡◌}
use Rattle.diagram.proofs.CopyLaws.{front}
use Rattle.planner.proofs.PlanLaws.{zeros}
use Rattle.loops.specs.Inner.{cycle_in}
use Rattle.loops.proofs.turned.Given as goal

abbrev pub invariant-loop-i : goal.invariant-loop-i
invariant-loop-i l = l.bytes ≡ front (cycle_in l.work l.count) zeros l.i
