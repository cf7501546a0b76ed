-- `mean_cycle::search::sweep` meets its contract: the nodes below v are done. Assumes nothing.
use native.Mathlib.Omega.{arith}
use Rattle.mean_cycle.proofs.Rounds.{sweep_more}
use Rattle.mean_cycle.proofs.search.sweep.Goals as goal

pub loop-v-preserved : goal.loop-v-preserved
loop-v-preserved c = sweep_more c.loop-v.invariant (omega arith) c.visit-s.ensures c.if-found.false
