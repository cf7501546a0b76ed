-- `port::reach` meets its contract. Assumes nothing.
use borrow.Author.Tests.{le-leb, lt-leb}
use Rattle.port.proofs.reach.Goals as goal

pub returns-then-callers-gt4 : goal.returns-then-callers-gt4
returns-then-callers-gt4 c = simp (lt-leb _ _ c.if-callers-gt4.true)

pub returns-then-length-end : goal.returns-then-length-end
returns-then-length-end c = simp (le-leb _ _ c.if-callers-gt4.false, lt-leb _ _ c.if-length-end.true)

pub returns : goal.returns
returns c = simp (le-leb _ _ c.if-callers-gt4.false, le-leb _ _ c.if-length-end.false)
