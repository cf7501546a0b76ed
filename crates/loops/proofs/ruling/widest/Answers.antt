-- `loops::ruling::widest` meets its contract. Assumes nothing.
use Rattle.loops.proofs.RulingLaws.{max_begin, max_more, max_all, largest_is}
use native.Mathlib.Omega.{arith}
use Rattle.loops.proofs.ruling.widest.Goals as goal

pub loop-q-init : goal.loop-q-init
loop-q-init c = max_begin _

pub loop-q-preserved : goal.loop-q-preserved
loop-q-preserved c = max_more _ _ _ _ _ c.loop-q.invariant c.span_of-one.ensures c.larger-best.ensures

pub returns : goal.returns
returns c = largest_is _ _ (max_all _ _ _ c.loop-q.invariant (omega arith) (omega arith))
