-- `mean_cycle::search::sweep` meets its contract: the nodes below v are done. Assumes nothing.
use Rattle.mean_cycle.proofs.Rounds.{Sweeping}
use Rattle.mean_cycle.proofs.search.sweep.Given as goal

abbrev pub invariant-loop-v : goal.invariant-loop-v
invariant-loop-v l = Sweeping l.initial.work l.work l.graph l.best l.v l.moved
