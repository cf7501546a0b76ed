-- `small_text::put_labelled` meets its contract. Assumes nothing.
use native.Mathlib.Omega.{arith}
use Rattle.text.proofs.DecimalLaws.{decimal_length}
use Rattle.text.proofs.BoundedLaws.{put_word, put_one}
use Rattle.small_text.proofs.put_labelled.Goals as goal

pub returns : goal.returns
returns c =
    let first = put_one 10 _ (c.put-after_word.ensures.value, c.put-after_word.ensures.out_after) c.requires.0 (omega (arith, c.requires.1)) in
    put_word 10 _ first (c.put_number.ensures.value, c.put_number.ensures.out_after) (decimal_length c.args.number 10 (omega arith) (omega (arith, c))) (omega (arith, c.requires.1))
