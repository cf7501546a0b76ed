-- `file_questions::judge` meets its contract: a refused file is passed on, and of an accepted one the verdict is handed out as a number. Assumes nothing.
use mathlib.Core.Path.{ap, ◌∙◌}
use mathlib.Core.Bool.{cond}
use Rattle.words.specs.Bytes.{narrow}
use Rattle.unit.specs.Unit.{marked}
use Rattle.unit.specs.Calls.{tag_answer}
use Rattle.judge.specs.Judge.{meets, cycle_answer, judge_answer}
use Rattle.file_answers.proofs.HandedLaws.{number_handed}
use Rattle.file_questions.specs.Questions.{judge_refusal}
use Rattle.file_questions.specs.Inner.{verdict_number}
use Rattle.file_questions.proofs.VerdictLaws.{verdict_number_lem}
use Rattle.file_questions.proofs.judge.Goals as goal

pub returns : goal.returns
unfolding judge_refusal judge_answer
returns c =
    let a = c.args in
    let tag = narrow a.tag in
    let l = a.cycle.now in
    let facts = number_handed _ _ c.read-back.ensures (λ v. cycle_answer (tag_answer v tag) l) (λ T. cond (meets T tag l) 0 1) _
    (c.verdict_number.ensures ∙ ap verdict_number (c.judge-verdict.ensures ∙ ap (λ q. judge_answer c.read-back.result.unit q l) c.byte.ensures)
    ∙ verdict_number_lem (cycle_answer (tag_answer c.read-back.result.unit tag) l) (meets (marked c.read-back.result.unit) tag l)) (c.hand_out.ensures.value, c.hand_out.ensures.value_after) in
    record { value = facts.0; yes_after = facts.1 }
