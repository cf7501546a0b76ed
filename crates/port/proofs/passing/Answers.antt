-- `port::passing` meets its contract. Assumes nothing.
use Rattle.port.proofs.passing.Goals as goal

pub returns : goal.returns
returns c = c.unit_on.ensures
