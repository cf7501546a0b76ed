-- `mean_cycle::search::visit` meets its contract: the latencies below t are done. Assumes nothing.
use Prim.Native.Nat.{◌+◌, ◌-◌, ◌≤◌}
use Rattle.diagram.specs.Diagram.{Permits}
use Rattle.diagram.specs.Work.{state_in}
use Rattle.mean_cycle.proofs.Rounds.{Visiting}
use Rattle.mean_cycle.proofs.search.visit.Given as goal

abbrev pub invariant-loop-t : goal.invariant-loop-t
invariant-loop-t l =
    Visiting l.initial.work l.work l.graph l.best l.v l.t l.moved × (l.t ≤ l.graph.width + 1 → Permits 1 l.graph.width (state_in l.initial.work l.v) l.t)

abbrev pub decreases-loop-t : goal.decreases-loop-t
decreases-loop-t l = l.last + 1 - l.t
