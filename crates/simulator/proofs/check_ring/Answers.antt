-- `simulator::check_ring` meets its contract. Assumes nothing.
use Rattle.words.proofs.Tests.{on, off}
use Rattle.simulator.proofs.StepLaws.{ring_not, ring_beyond, ring_done}
use Rattle.simulator.proofs.check_ring.Goals as goal

pub returns-then-not-holds_cycle : goal.returns-then-not-holds_cycle
returns-then-not-holds_cycle c = let a = c.args in ring_not a.plan a.position (off c.if-not-holds_cycle.true-raw c.holds_cycle.ensures)

pub returns-then-plan-position : goal.returns-then-plan-position
returns-then-plan-position c = let a = c.args in ring_beyond a.plan a.position (on c.if-not-holds_cycle.false-raw c.holds_cycle.ensures) c.if-plan-position.true

pub returns : goal.returns
returns c = let a = c.args in ring_done a.plan a.position (on c.if-not-holds_cycle.false-raw c.holds_cycle.ensures) c.if-plan-position.false
