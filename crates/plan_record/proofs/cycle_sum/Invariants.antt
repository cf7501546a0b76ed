-- `plan_record::cycle_sum` meets its contract. The loop's invariant: the latencies passed are 1 to 32 each, and this is their sum. Assumes nothing.
use Rattle.plan_record.proofs.CycleLaws.{Summed}
use Rattle.plan_record.proofs.cycle_sum.Given as goal

abbrev pub invariant-loop-latency : goal.invariant-loop-latency
invariant-loop-latency l = Summed l.list l.latency-index l.sum
