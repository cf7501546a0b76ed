-- `questions::lines::put_value` meets its contract. Assumes nothing.
use native.Mathlib.Omega.{arith}
use lib.ListN.{length}
use Rattle.text.proofs.DecimalLaws.{decimal_length}
use Rattle.text.proofs.BoundedLaws.{put_word, put_one}
use Rattle.questions.proofs.lines.put_value.Goals as goal

pub returns : goal.returns
returns c =
    let p₁ = put_one (length c.args.word.now) _ (c.put-after_word.ensures.value, c.put-after_word.ensures.out_after) (omega arith) (omega (arith, c.requires)) in
    let p₂ = put_word 10 _ p₁ (c.put_number-after_number.ensures.value, c.put_number-after_number.ensures.out_after) (decimal_length c.args.number 10 (omega arith) (omega arith)) (omega (arith, c.requires)) in
    let p₃ = put_word 1 _ p₂ (c.put.ensures.value, c.put.ensures.out_after) (omega arith) (omega (arith, c.requires)) in
    p₃.wrote
