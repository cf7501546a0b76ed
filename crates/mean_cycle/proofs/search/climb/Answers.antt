-- `mean_cycle::search::climb` meets its contract: what leads on from y leads on from v, and the links end within the nodes. Assumes nothing.
use Rattle.mean_cycle.proofs.Turns.{climb_more, climb_met, climb_missed}
use Rattle.mean_cycle.proofs.search.climb.Goals as goal

pub returns-then-y-x : goal.returns-then-y-x
returns-then-y-x c = climb_met c.loop-k.invariant c.loop-k-test.true c.if-y-x.true

pub returns-then-nodes-p : goal.returns-then-nodes-p
returns-then-nodes-p c = climb_missed c.loop-k.invariant c.if-y-x.false c.if-nodes-p.true

pub loop-k-preserved : goal.loop-k-preserved
loop-k-preserved c = climb_more c.loop-k.invariant c.if-y-x.false c.if-nodes-p.false
