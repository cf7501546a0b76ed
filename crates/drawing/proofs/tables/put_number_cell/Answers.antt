-- `drawing::tables::put_number_cell` meets its contract. Assumes nothing.
use Prim.Native.Nat.{◌≤◌}
use native.Mathlib.Omega.{arith}
use lib.ListN.{length}
use Rattle.text.specs.Text.{decimal}
use Rattle.text.proofs.DecimalLaws.{decimal_length}
use Rattle.text.proofs.BoundedLaws.{put_one, put_word, put_as}
use Rattle.drawing.proofs.TableLaws.{cell_one, cell_two}
use Rattle.drawing.proofs.tables.put_number_cell.Goals as goal

pub returns-then-number-lt10 : goal.returns-then-number-lt10
returns-then-number-lt10 c =
    let n = c.args.number in
    let d : length (decimal n) ≤ 1 = decimal_length n 1 (omega arith) (omega arith) in
    let p = put_one 2 _ (c.put-after_two.ensures.value, c.put-after_two.ensures.out_after) (omega arith) (omega arith) in
    put_as (put_word 1 _ p (c.put_number.ensures.value, c.put_number.ensures.out_after) d (omega arith)) (cell_one n (omega arith)) (omega arith)

pub returns : goal.returns
returns c =
    let n = c.args.number in
    let d : length (decimal n) ≤ 2 = decimal_length n 2 (omega arith) (omega arith) in
    let p = put_one 1 _ (c.put-after_one.ensures.value, c.put-after_one.ensures.out_after) (omega arith) (omega arith) in
    put_as (put_word 2 _ p (c.put_number-2.ensures.value, c.put_number-2.ensures.out_after) d (omega arith)) (cell_two n (omega arith) (omega arith)) (omega arith)
