-- `c_interface::marks::limedarts_unmark` meets its contract, which is that of `file_edits::unmark`. Assumes nothing.
use Rattle.c_interface.proofs.marks.limedarts_unmark.Goals as goal

pub returns : goal.returns
returns c = record { value = c.unmark.ensures.value; file_after = c.unmark.ensures.file_after }
