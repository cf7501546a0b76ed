-- `file_questions::matrix_row` meets its contract: a refused file is passed on, and an accepted one's row is handed out. Assumes nothing.
use mathlib.Core.Path.{ap₂, ◌∙◌}
use Rattle.words.specs.Bytes.{narrow}
use Rattle.collision.specs.Vector.{row_word}
use Rattle.collision.specs.Answers.{tags_answer, row_answer}
use Rattle.file_answers.proofs.HandedLaws.{number_handed}
use Rattle.file_questions.specs.Questions.{tags_refusal}
use Rattle.file_questions.proofs.matrix_row.Goals as goal

pub returns : goal.returns
unfolding tags_refusal row_answer
returns c =
    let tag = narrow c.args.tag in
    let other = narrow c.args.other in
    let facts = number_handed _ _ c.read-back.ensures (λ u. tags_answer u tag other) (λ T. row_word T tag other) _
    (c.matrix_row-row.ensures ∙ ap₂ (row_answer c.read-back.result.unit) c.byte.ensures c.byte-2.ensures) (c.hand_out.ensures.value, c.hand_out.ensures.value_after) in
    record { value = facts.0; word_after = facts.1 }
