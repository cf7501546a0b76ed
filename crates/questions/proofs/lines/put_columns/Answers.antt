-- `questions::lines::put_columns` meets its contract. Assumes nothing.
use native.Mathlib.Omega.{arith}
use Rattle.text.proofs.RowLaws.{vector_most}
use Rattle.text.proofs.BoundedLaws.{put_word, put_one}
use Rattle.questions.proofs.lines.put_columns.Goals as goal

pub returns : goal.returns
returns c =
    let p₁ = put_one 7 _ (c.put-after_word.ensures.value, c.put-after_word.ensures.out_after) c.requires.0 (omega (arith, c.requires.2)) in
    let most = vector_most c.args.columns c.args.row 32 (omega arith) c.requires.1 in
    let p₂ = put_word 32 _ p₁ (c.put_columns-after_columns.ensures.value, c.put_columns-after_columns.ensures.out_after) most (omega (arith, c.requires.2)) in
    let p₃ = put_word 1 _ p₂ (c.put.ensures.value, c.put.ensures.out_after) (omega arith) (omega (arith, c.requires.2)) in
    p₃.wrote
