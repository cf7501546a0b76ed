-- `cycles::least_latency` meets its contract: the columns before the latency are 1. Assumes nothing.
use Rattle.cycles.proofs.LatencyLaws.{Trying}
use Rattle.cycles.proofs.least_latency.Given as goal

abbrev pub invariant-loop-latency : goal.invariant-loop-latency
invariant-loop-latency l = Trying l.state l.columns l.latency
