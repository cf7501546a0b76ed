-- `measures::marks` meets its contract. Assumes nothing.
use mathlib.Core.Path.{sym, ap, ◌∙◌}
use Rattle.collision.specs.Answers.{marks_answer}
use Rattle.collision.proofs.AnswerLaws.{number_refused, number_given}
use Rattle.measures.specs.Inner.{most_marks}
use Rattle.measures.proofs.NumberLaws.{most_marks_of}
use Rattle.unit.proofs.Exits.{handed_on}
use Rattle.measures.proofs.marks.Goals as goal

pub returns-in_err-check_tag : goal.returns-in_err-check_tag
unfolding marks_answer
returns-in_err-check_tag c = handed_on c.from_residual.ensures.1 (number_refused _ (sym c.check_tag.ensures ∙ c.in_err-check_tag.was))

pub returns : goal.returns
unfolding marks_answer
returns c =
    number_given (sym c.check_tag.ensures ∙ c.in_ok-check_tag.was)
    (c.most_marks.ensures ∙ ap most_marks c.columns_of-columns.ensures ∙ most_marks_of _ _)
