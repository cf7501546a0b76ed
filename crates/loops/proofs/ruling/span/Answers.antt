-- `loops::ruling::span` meets its contract. Assumes nothing.
use Rattle.loops.proofs.RulingLaws.{span_is}
use Rattle.loops.proofs.ruling.span.Goals as goal

-- src/ruling.rt:26:1
pub returns : goal.returns
returns c = span_is _ _ _ _ _ _ _ c.columns_of-later.ensures c.columns_of-earlier.ensures c.row_of-row.ensures c.width_of.ensures
