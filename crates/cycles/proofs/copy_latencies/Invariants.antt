-- `cycles::copy_latencies` meets its contract: the latencies passed are copied and added up. Assumes nothing.
use Rattle.cycles.proofs.NotedLaws.{Copying}
use Rattle.cycles.proofs.copy_latencies.Given as goal

abbrev pub invariant-loop-i : goal.invariant-loop-i
invariant-loop-i l = Copying l.work l.from l.count l.initial.out l.out l.sum l.i
