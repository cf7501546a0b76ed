-- `command::scan::note` meets its contract. Assumes nothing.
use Rattle.command.proofs.ScanLaws.{noted_parts}
use Rattle.command.proofs.scan.note.Goals as goal

pub returns : goal.returns
returns c = let a = c.args in noted_parts a.words a.good a.number c.at_place.ensures c.at_place-2.ensures c.at_place-3.ensures
