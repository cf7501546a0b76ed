-- `mean_cycle::greedy::copy` meets its contract: the first j latencies stand in their place. Assumes nothing.
use Rattle.mean_cycle.proofs.FirstCycle.{copy_more}
use Rattle.mean_cycle.proofs.greedy.copy.Goals as goal

pub loop-j-preserved : goal.loop-j-preserved
loop-j-preserved c = copy_more c.requires c.loop-j.invariant c.loop-j-test.true
