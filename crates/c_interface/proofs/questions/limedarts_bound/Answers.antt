-- `c_interface::questions::limedarts_bound` meets its contract, which is that of `file_measures::bound`. Assumes nothing.
use Rattle.c_interface.proofs.questions.limedarts_bound.Goals as goal

pub returns : goal.returns
returns c = record { value = c.bound.ensures.value; value_after = c.bound.ensures.value_after }
