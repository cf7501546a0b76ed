-- `small_text::write_totals` meets its contract. Assumes nothing.
use native.Mathlib.Omega.{arith}
use Rattle.text.proofs.BoundedLaws.{put_more, put_word}
use Rattle.small_text.proofs.write_totals.Goals as goal

pub returns : goal.returns
returns c =
    let counts = put_more c.put_labelled-after_tables.ensures c.put_labelled-after_reaching.ensures in
    let largest = put_more (put_more counts c.put_labelled-after_numerator.ensures) c.put_labelled-after_denominator.ensures in
    (put_word 1 _ (put_more largest c.put_labelled-after_first.ensures) (c.put.ensures.value, c.put.ensures.out_after) (omega arith) (omega (arith, c.requires))).wrote
