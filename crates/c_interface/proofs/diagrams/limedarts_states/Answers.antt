-- `c_interface::diagrams::limedarts_states` meets its contract, which is that of `file_questions::states`. Assumes nothing.
use Rattle.c_interface.proofs.diagrams.limedarts_states.Goals as goal

pub returns : goal.returns
returns c = record { value = c.states.ensures.value; out_after = c.states.ensures.out_after; count_after = c.states.ensures.count_after }
