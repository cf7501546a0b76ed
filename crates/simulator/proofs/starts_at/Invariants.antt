-- `simulator::starts_at` meets its contract. The loop's invariant: the starts passed are below the position. Assumes nothing.
use Rattle.simulator.proofs.PositionLaws.{Passed}
use Rattle.simulator.proofs.starts_at.Given as goal

abbrev pub invariant-loop-latency : goal.invariant-loop-latency
invariant-loop-latency l = Passed l.list l.position l.latency-index l.next
