-- `collision::vector` meets its contract. Assumes nothing.
use Rattle.std.proofs.Common.{◌∙◌, sym}
use Rattle.unit.proofs.Exits.{handed_on}
use Rattle.collision.specs.Answers.{vector_answer}
use Rattle.collision.proofs.AnswerLaws.{number_refused, number_given}
use Rattle.collision.proofs.vector.Goals as goal

pub returns-in_err-check_tag : goal.returns-in_err-check_tag
unfolding vector_answer
returns-in_err-check_tag c = handed_on c.from_residual.ensures.1 (number_refused _ (sym c.check_tag.ensures ∙ c.in_err-check_tag.was))

pub returns : goal.returns
unfolding vector_answer
returns c = number_given (sym c.check_tag.ensures ∙ c.in_ok-check_tag.was) c.row_of_tags.ensures
