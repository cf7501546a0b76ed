-- `drawing::tables::put_line` meets its contract. Assumes nothing.
use mathlib.Core.Path.{refl}
use native.Mathlib.Omega.{arith}
use Rattle.text.proofs.BoundedLaws.{put_more, put_word, put_as}
use Rattle.drawing.proofs.tables.put_line.Goals as goal

pub returns : goal.returns
returns c =
    let p = put_more c.put_number_cell-after_number.ensures c.put_marks-after_marks.ensures in
    put_as (put_word 1 _ p (c.put.ensures.value, c.put.ensures.out_after) (omega arith) (omega arith)) refl (omega arith)
