-- `command::scan::at_place` meets its contract. Assumes nothing.
use borrow.Author.Tests.{eq-eqb, ne_eqb}
use Rattle.command.proofs.scan.at_place.Goals as goal

pub returns-then-count-place : goal.returns-then-count-place
returns-then-count-place c = rw (eq-eqb _ _ c.if-count-place.true)

pub returns : goal.returns
returns c = rw (ne_eqb _ _ c.if-count-place.false)
