-- `mean_cycle::greedy::first_cycle` meets its contract: the nodes that the walk left are different, so it ends. Assumes nothing.
use Prim.Native.Nat.{◌-◌}
use Rattle.mean_cycle.proofs.FirstCycle.{Walking}
use Rattle.mean_cycle.proofs.greedy.first_cycle.Given as goal

abbrev pub invariant-loop-graph : goal.invariant-loop-graph
invariant-loop-graph l = Walking l.initial.work l.work l.graph l.v l.i

abbrev pub decreases-loop-graph : goal.decreases-loop-graph
decreases-loop-graph l = l.graph.nodes - l.i
