-- `c_interface::questions::limedarts_matrix_row` meets its contract, which is that of `file_questions::matrix_row`. Assumes nothing.
use Rattle.c_interface.proofs.questions.limedarts_matrix_row.Goals as goal

pub returns : goal.returns
returns c = record { value = c.matrix_row.ensures.value; word_after = c.matrix_row.ensures.word_after }
