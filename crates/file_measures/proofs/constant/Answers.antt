-- `file_measures::constant` meets its contract: a refused file is passed on, and an accepted one's latency is handed out. Assumes nothing.
use mathlib.Core.Path.{ap, ◌∙◌}
use Rattle.words.specs.Bytes.{narrow}
use Rattle.unit.specs.Calls.{tag_answer}
use Rattle.collision.specs.Vector.{constant_of}
use Rattle.collision.specs.Answers.{constant_answer}
use Rattle.file_answers.specs.Answers.{tag_refusal}
use Rattle.file_answers.proofs.HandedLaws.{number_handed}
use Rattle.file_measures.proofs.constant.Goals as goal

pub returns : goal.returns
unfolding tag_refusal constant_answer
returns c =
    let tag = narrow c.args.tag in
    let facts = number_handed _ _ c.read-back.ensures (λ u. tag_answer u tag) (λ T. constant_of T tag) _
    (c.constant-asked.ensures ∙ ap (constant_answer c.read-back.result.unit) c.byte.ensures) (c.hand_out.ensures.value, c.hand_out.ensures.value_after) in
    record { value = facts.0; value_after = facts.1 }
