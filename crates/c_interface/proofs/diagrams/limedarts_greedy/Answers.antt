-- `c_interface::diagrams::limedarts_greedy` meets its contract, which is that of `file_cycles::greedy`. Assumes nothing.
use Rattle.c_interface.proofs.diagrams.limedarts_greedy.Goals as goal

pub returns : goal.returns
returns c = record { value = c.greedy.ensures.value; out_after = c.greedy.ensures.out_after; count_after = c.greedy.ensures.count_after; sum_after = c.greedy.ensures.sum_after; work_after = c.greedy.ensures.work_after }
