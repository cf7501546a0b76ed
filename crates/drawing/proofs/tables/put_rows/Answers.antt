-- `drawing::tables::put_rows` meets its contract. Assumes nothing.
use native.Mathlib.Omega.{arith}
use Rattle.text.proofs.BoundedLaws.{put_join_start, put_join_more}
use Rattle.drawing.specs.Inner.{line_text, line_length}
use Rattle.drawing.proofs.tables.put_rows.Goals as goal

pub loop-segment-init : goal.loop-segment-init
loop-segment-init c = let a = c.args in put_join_start (line_length a.columns) (line_text a.marks a.columns) (omega arith)

pub loop-segment-preserved : goal.loop-segment-preserved
loop-segment-preserved c =
    let a = c.args in
    put_join_more (line_length a.columns) c.loop-segment.segment (line_text a.marks a.columns) c.loop-segment.invariant c.put_line-end.ensures
