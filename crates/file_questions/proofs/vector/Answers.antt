-- `file_questions::vector` meets its contract: a refused file is passed on, and an accepted one's vector is handed out. Assumes nothing.
use mathlib.Core.Path.{ap, ◌∙◌}
use Rattle.words.specs.Bytes.{narrow}
use Rattle.unit.specs.Calls.{tag_answer}
use Rattle.collision.specs.Vector.{vector_word}
use Rattle.collision.specs.Answers.{vector_answer}
use Rattle.file_answers.specs.Answers.{tag_refusal}
use Rattle.file_answers.proofs.HandedLaws.{number_handed}
use Rattle.file_questions.proofs.vector.Goals as goal

pub returns : goal.returns
unfolding tag_refusal vector_answer
returns c =
    let tag = narrow c.args.tag in
    let facts = number_handed _ _ c.read-back.ensures (λ u. tag_answer u tag) (λ T. vector_word T tag) _
    (c.vector-asked.ensures ∙ ap (vector_answer c.read-back.result.unit) c.byte.ensures) (c.hand_out.ensures.value, c.hand_out.ensures.value_after) in
    record { value = facts.0; word_after = facts.1 }
