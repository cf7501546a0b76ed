-- `session::load` meets its contract. Assumes nothing.
use Rattle.session.proofs.SessionLaws.{made_as}
use Rattle.session.proofs.load.Goals as goal

pub returns : goal.returns
returns c = made_as c.read-made.ensures c.take_unit.ensures
