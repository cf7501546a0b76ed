-- `mean_cycle::greedy::copy` meets its contract: the first j latencies stand in their place. Assumes nothing.
use Rattle.mean_cycle.proofs.FirstCycle.{Copying}
use Rattle.mean_cycle.proofs.greedy.copy.Given as goal

abbrev pub invariant-loop-j : goal.invariant-loop-j
invariant-loop-j l = Copying l.initial.work l.work l.from l.to l.sum l.j
