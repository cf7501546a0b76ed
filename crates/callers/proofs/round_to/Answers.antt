-- `callers::round_to` meets its contract. Assumes nothing.
use borrow.Author.Tests.{eq-eqb, ne_eqb}
use Rattle.callers.proofs.round_to.Goals as goal

pub returns-then-caller-callers : goal.returns-then-caller-callers
returns-then-caller-callers c = simp (eq-eqb _ _ c.if-caller-callers.true)

pub returns : goal.returns
returns c = simp (ne_eqb _ _ c.if-caller-callers.false)
