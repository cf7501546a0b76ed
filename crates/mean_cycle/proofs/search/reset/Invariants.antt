-- `mean_cycle::search::reset` meets its contract: the nodes below y are cleared. Assumes nothing.
use Prim.Native.Nat.{◌≤◌}
use Rattle.mean_cycle.specs.Inner.{Cleared}
use Rattle.mean_cycle.proofs.search.reset.Given as goal

abbrev pub invariant-loop-y : goal.invariant-loop-y
invariant-loop-y l = (l.y ≤ l.nodes) × Cleared l.initial.work l.work l.y
