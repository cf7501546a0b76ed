-- `chart::rows::put_count` meets its contract. Assumes nothing.
use mathlib.Core.Path.{refl}
use native.Mathlib.Nat.{le_refl}
use native.Mathlib.Omega.{arith}
use lib.ListN.{length}
use Rattle.text.specs.Text.{decimal}
use Rattle.text.proofs.BoundedLaws.{put_one, put_more, put_word, put_as, put_room}
use Rattle.chart.proofs.rows.put_count.Goals as goal

pub put_at_right-after_number-requires : goal.put_at_right-after_number-requires
put_at_right-after_number-requires c =
    (c.requires.0, put_room (length (decimal c.args.units)) (put_one 6 _ (c.put-after_word.ensures.value, c.put-after_word.ensures.out_after) (omega arith) (omega (arith, c.requires.1))) (omega (arith, c.requires.1)))

pub returns : goal.returns
returns c =
    let d = length (decimal c.args.units) in
    let p = put_one 6 _ (c.put-after_word.ensures.value, c.put-after_word.ensures.out_after) (omega arith) (omega (arith, c.requires.1)) in
    let q = put_word 1 _ (put_more p c.put_at_right-after_number.ensures) (c.put-after_stroke.ensures.value, c.put-after_stroke.ensures.out_after) (omega arith) (omega (arith, c.requires.1)) in
    let r = put_word d _ q (c.put_number-after_units.ensures.value, c.put_number-after_units.ensures.out_after) (le_refl d) (omega (arith, c.requires.1)) in
    put_as (put_word 1 _ r (c.put.ensures.value, c.put.ensures.out_after) (omega arith) (omega (arith, c.requires.1))) refl (omega arith)
