-- `c_interface::questions::limedarts_judge` meets its contract, which is that of `file_questions::judge`. Assumes nothing.
use Rattle.c_interface.proofs.questions.limedarts_judge.Goals as goal

pub returns : goal.returns
returns c = record { value = c.judge.ensures.value; yes_after = c.judge.ensures.yes_after }
