-- `measures::constant` meets its contract: the vector's answer, and the least m that is free in its word. Assumes nothing.
use mathlib.Core.Path.{sym, ap, ◌∙◌}
use Rattle.collision.specs.Answers.{constant_answer}
use Rattle.collision.proofs.AnswerLaws.{number_refused, number_given, vector_refused, vector_given}
use Rattle.measures.specs.Inner.{least_free}
use Rattle.measures.proofs.NumberLaws.{least_constant}
use Rattle.unit.proofs.Exits.{handed_on}
use Rattle.measures.proofs.constant.Goals as goal

pub returns-in_err-forbidden : goal.returns-in_err-forbidden
unfolding constant_answer
returns-in_err-forbidden c = handed_on c.from_residual.ensures.1 (number_refused _ (vector_refused _ _ _ (sym c.vector.ensures ∙ c.in_err-forbidden.was)))

pub returns : goal.returns
unfolding constant_answer
returns c =
    let v = vector_given _ _ _ (sym c.vector.ensures ∙ c.in_ok-forbidden.was) in
    number_given v.done (c.least_free.ensures ∙ ap least_free (sym v.value) ∙ least_constant _ _)
