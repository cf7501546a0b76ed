-- `drawing::tables::put_numbers` meets its contract. Assumes nothing.
use native.Mathlib.Omega.{arith}
use Rattle.text.proofs.BoundedLaws.{put_join_start, put_join_more}
use Rattle.drawing.specs.Inner.{number_cell}
use Rattle.drawing.proofs.tables.put_numbers.Goals as goal

pub loop-column-init : goal.loop-column-init
loop-column-init c = put_join_start 3 number_cell (omega arith)

pub loop-column-preserved : goal.loop-column-preserved
loop-column-preserved c =
    put_join_more 3 c.loop-column.column number_cell c.loop-column.invariant c.put_number_cell-end.ensures
