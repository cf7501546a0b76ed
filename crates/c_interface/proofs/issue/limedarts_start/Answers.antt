-- `c_interface::issue::limedarts_start` meets its contract, which is that of `file_issue::start`. Assumes nothing.
use Rattle.c_interface.proofs.issue.limedarts_start.Goals as goal

pub returns : goal.returns
returns c = record { value = c.start.ensures.value; bank_after = c.start.ensures.bank_after }
