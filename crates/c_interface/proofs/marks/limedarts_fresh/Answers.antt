-- `c_interface::marks::limedarts_fresh` meets its contract, which is that of `file_edits::fresh`. Assumes nothing.
use Rattle.c_interface.proofs.marks.limedarts_fresh.Goals as goal

pub returns : goal.returns
returns c = record { value = c.fresh.ensures.value; out_after = c.fresh.ensures.out_after; size_after = c.fresh.ensures.size_after }
