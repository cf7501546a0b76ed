-- `mean_cycle::search::round` meets its contract: every sweep but the last raises the sum of the gains, which has a bound. Assumes nothing.
use Prim.Native.Nat.{◌-◌}
use Rattle.mean_cycle.specs.Nodes.{sum_to}
use Rattle.mean_cycle.specs.Inner.{gain}
use Rattle.mean_cycle.proofs.Rounds.{Going, most}
use Rattle.mean_cycle.proofs.search.round.Given as goal

abbrev pub invariant-loop-graph : goal.invariant-loop-graph
invariant-loop-graph l = Going l.initial.work l.work l.graph l.best

abbrev pub decreases-loop-graph : goal.decreases-loop-graph
decreases-loop-graph l = most l.graph.nodes l.best.sum - sum_to (gain l.work) l.graph.nodes
