-- `collision::matrix_row` meets its contract. Assumes nothing.
use Rattle.std.proofs.Common.{arith}
use Rattle.std.proofs.lemmas.Grind.{common_steps}
use Rattle.collision.specs.Answers.{row_answer}
use Rattle.collision.proofs.matrix_row.Goals as goal

pub returns-in_err-check_tags : goal.returns-in_err-check_tags
unfolding row_answer
returns-in_err-check_tags c = grind (arith, common_steps)

pub returns : goal.returns
unfolding row_answer
returns c = grind (arith, common_steps)
