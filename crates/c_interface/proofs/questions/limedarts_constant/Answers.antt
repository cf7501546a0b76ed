-- `c_interface::questions::limedarts_constant` meets its contract, which is that of `file_measures::constant`. Assumes nothing.
use Rattle.c_interface.proofs.questions.limedarts_constant.Goals as goal

pub returns : goal.returns
returns c = record { value = c.constant.ensures.value; value_after = c.constant.ensures.value_after }
