-- `mean_cycle::search::search_listed` meets its contract: every round but the last lowers the average, in parts of 65536. Assumes nothing.
use Prim.Native.Nat.{◌*◌, ◌/◌}
use Rattle.mean_cycle.specs.Inner.{Begun}
use Rattle.mean_cycle.proofs.search.search_listed.Given as goal

abbrev pub invariant-loop-graph : goal.invariant-loop-graph
invariant-loop-graph l = Begun l.initial.work l.work l.graph l.best

abbrev pub decreases-loop-graph : goal.decreases-loop-graph
decreases-loop-graph l = 65536 * l.best.sum / l.best.count
