-- `c_interface::marks::limedarts_mark` meets its contract, which is that of `file_edits::mark`. Assumes nothing.
use Rattle.c_interface.proofs.marks.limedarts_mark.Goals as goal

pub returns : goal.returns
returns c = record { value = c.mark.ensures.value; file_after = c.mark.ensures.file_after }
