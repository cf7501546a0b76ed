-- `chart::rows::put_name` meets its contract. Assumes nothing.
use Prim.Native.Nat.{◌≤◌}
use native.Mathlib.Omega.{arith}
use lib.ListN.{length}
use Rattle.text.specs.Text.{decimal}
use Rattle.text.proofs.BoundedLaws.{put_one, put_word, put_as}
use Rattle.text.proofs.DecimalLaws.{decimal_length}
use Rattle.chart.proofs.LineLaws.{name_one, name_two}
use Rattle.chart.proofs.rows.put_name.Goals as goal

pub returns-then-number-lt10 : goal.returns-then-number-lt10
returns-then-number-lt10 c =
    let n = c.args.number in
    let d : length (decimal n) ≤ 1 = decimal_length n 1 (omega arith) (omega arith) in
    let p = put_one 1 _ (c.put_number-after_number.ensures.value, c.put_number-after_number.ensures.out_after) d (omega arith) in
    put_as (put_word 7 _ p (c.put.ensures.value, c.put.ensures.out_after) (omega arith) (omega arith)) (name_one n (omega arith)) (omega arith)

pub returns : goal.returns
returns c =
    let n = c.args.number in
    let d : length (decimal n) ≤ 2 = decimal_length n 2 (omega arith) (omega arith) in
    let p = put_one 2 _ (c.put_number-after_number.ensures.value, c.put_number-after_number.ensures.out_after) d (omega arith) in
    put_as (put_word 6 _ p (c.put-2.ensures.value, c.put-2.ensures.out_after) (omega arith) (omega arith)) (name_two n (omega arith) (omega arith)) (omega arith)
