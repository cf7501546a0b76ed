-- `cycles::copy_latencies` meets its contract: the latencies passed are copied and added up. Assumes nothing.
use Rattle.cycles.proofs.NotedLaws.{copy_more}
use Rattle.cycles.proofs.copy_latencies.Goals as goal

pub loop-i-preserved : goal.loop-i-preserved
loop-i-preserved c = copy_more _ _ _ _ c.requires _ _ _ c.loop-i.invariant c.loop-i-test.true
