-- `c_interface::questions::limedarts_upper` meets its contract, which is that of `file_measures::upper`. Assumes nothing.
use Rattle.c_interface.proofs.questions.limedarts_upper.Goals as goal

pub returns : goal.returns
returns c = record { value = c.upper.ensures.value; value_after = c.upper.ensures.value_after }
