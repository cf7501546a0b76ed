-- `c_interface::diagrams::limedarts_search` meets its contract, which is that of `file_cycles::search`. Assumes nothing.
use Rattle.c_interface.proofs.diagrams.limedarts_search.Goals as goal

pub returns : goal.returns
returns c = c.search.ensures
