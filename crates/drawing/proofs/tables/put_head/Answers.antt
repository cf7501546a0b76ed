-- `drawing::tables::put_head` meets its contract. Assumes nothing.
use mathlib.Core.List.{[]}
use Prim.Native.Nat.{◌*◌}
use native.Mathlib.Omega.{arith}
use Rattle.text.proofs.BoundedLaws.{put_one, put_more, put_word, put_as, put_room}
use Rattle.drawing.specs.Tables.{cell}
use Rattle.drawing.proofs.TableLaws.{head_all}
use Rattle.drawing.proofs.tables.put_head.Goals as goal

pub put_numbers-after_numbers-requires : goal.put_numbers-after_numbers-requires
put_numbers-after_numbers-requires c =
    let a = c.args in
    (omega arith, put_room (3 * a.columns) (put_one 3 (cell []) (c.put-after_cell.ensures.value, c.put-after_cell.ensures.out_after) (omega arith) (omega arith)) (omega arith))

pub returns : goal.returns
returns c =
    let a = c.args in
    let p = put_one 3 (cell []) (c.put-after_cell.ensures.value, c.put-after_cell.ensures.out_after) (omega arith) (omega arith) in
    let q = put_word 1 _ (put_more p c.put_numbers-after_numbers.ensures) (c.put.ensures.value, c.put.ensures.out_after) (omega arith) (omega arith) in
    put_as q (head_all a.columns) (omega arith)
