-- `port::arriving` meets its contract. Assumes nothing.
use Rattle.port.proofs.arriving.Goals as goal

pub returns : goal.returns
returns c = c.arrival_on.ensures
