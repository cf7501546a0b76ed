-- `loops::ruling::span_of` meets its contract. Assumes nothing.
use Rattle.loops.proofs.RulingLaws.{max_begin, max_more}
use Rattle.loops.proofs.ruling.span_of.Goals as goal

pub loop-r-init : goal.loop-r-init
loop-r-init c = max_begin _

pub loop-r-preserved : goal.loop-r-preserved
loop-r-preserved c = max_more _ _ _ _ _ c.loop-r.invariant c.span-one.ensures c.larger-best.ensures
