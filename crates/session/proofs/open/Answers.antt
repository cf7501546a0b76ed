-- `session::open` meets its contract. Assumes nothing.
use Rattle.unit.specs.Calls.{fresh_of}
use Rattle.session.proofs.open.Goals as goal

pub returns : goal.returns
unfolding fresh_of
returns c = rw (c.fresh-made.ensures, c.empty_queue-queue.ensures, c.empty_shared-shared.ensures)
