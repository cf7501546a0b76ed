-- `simulator::position_after` meets its contract. Assumes nothing.
use borrow.Author.Tests.{eq-eqb, ne_eqb}
use Rattle.simulator.proofs.position_after.Goals as goal

pub returns-then-position-plan : goal.returns-then-position-plan
returns-then-position-plan c = simp (eq-eqb _ _ c.if-position-plan.true)

pub returns : goal.returns
returns c = simp (ne_eqb _ _ c.if-position-plan.false)
