-- `c_interface::questions::limedarts_vector` meets its contract, which is that of `file_questions::vector`. Assumes nothing.
use Rattle.c_interface.proofs.questions.limedarts_vector.Goals as goal

pub returns : goal.returns
returns c = record { value = c.vector.ensures.value; word_after = c.vector.ensures.word_after }
