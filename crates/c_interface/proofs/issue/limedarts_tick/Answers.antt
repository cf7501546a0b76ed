-- `c_interface::issue::limedarts_tick` meets its contract, which is that of `file_issue::tick`. Assumes nothing.
use Rattle.c_interface.proofs.issue.limedarts_tick.Goals as goal

pub returns : goal.returns
returns c = record { value = c.tick.ensures.value; bank_after = c.tick.ensures.bank_after }
