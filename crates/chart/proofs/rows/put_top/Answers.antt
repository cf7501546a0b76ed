-- `chart::rows::put_top` meets its contract. Assumes nothing.
use mathlib.Core.Path.{refl}
use native.Mathlib.Omega.{arith}
use Rattle.text.proofs.BoundedLaws.{put_one, put_more, put_word, put_as, put_room}
use Rattle.chart.specs.Cells.{start_cell}
use Rattle.chart.specs.Text.{unit_digit}
use Rattle.chart.proofs.LineLaws.{row_put}
use Rattle.chart.proofs.rows.put_top.Goals as goal

pub put_units-after_units-requires : goal.put_units-after_units-requires
put_units-after_units-requires c =
    (c.requires.0, put_room c.args.units (put_one 8 _ (c.put-after_name.ensures.value, c.put-after_name.ensures.out_after) (omega arith) (omega (arith, c.requires.1))) (omega (arith, c.requires.1)))

pub put_starts-after_starts-requires : goal.put_starts-after_starts-requires
put_starts-after_starts-requires c =
    let a = c.args in
    let p = put_one 8 _ (c.put-after_name.ensures.value, c.put-after_name.ensures.out_after) (omega arith) (omega (arith, c.requires.1)) in
    let q = put_more p (row_put a.units unit_digit c.put_units-after_units.ensures) in
    let r = put_word 1 _ q (c.put-after_line.ensures.value, c.put-after_line.ensures.out_after) (omega arith) (omega (arith, c.requires.1)) in
    let x = put_one 8 _ (c.put-after_word.ensures.value, c.put-after_word.ensures.out_after) (omega arith) (put_room 8 r (omega (arith, c.requires.1))) in
    (c.requires.0, put_room a.units (put_more r x) (omega (arith, c.requires.1)))

pub returns : goal.returns
returns c =
    let a = c.args in
    let p = put_one 8 _ (c.put-after_name.ensures.value, c.put-after_name.ensures.out_after) (omega arith) (omega (arith, c.requires.1)) in
    let q = put_more p (row_put a.units unit_digit c.put_units-after_units.ensures) in
    let r = put_word 1 _ q (c.put-after_line.ensures.value, c.put-after_line.ensures.out_after) (omega arith) (omega (arith, c.requires.1)) in
    let x = put_one 8 _ (c.put-after_word.ensures.value, c.put-after_word.ensures.out_after) (omega arith) (put_room 8 r (omega (arith, c.requires.1))) in
    let y = put_more x (row_put a.units (start_cell a.u a.plan) c.put_starts-after_starts.ensures) in
    put_as (put_word 1 _ (put_more r y) (c.put.ensures.value, c.put.ensures.out_after) (omega arith) (omega (arith, c.requires.1))) refl (omega arith)
