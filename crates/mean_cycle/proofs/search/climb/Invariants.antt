-- `mean_cycle::search::climb` meets its contract: what leads on from y leads on from v, and the links end within the nodes. Assumes nothing.
use Rattle.mean_cycle.proofs.Turns.{Climbing}
use Rattle.mean_cycle.proofs.search.climb.Given as goal

abbrev pub invariant-loop-k : goal.invariant-loop-k
invariant-loop-k l = Climbing l.work l.nodes l.v l.x l.y l.k
