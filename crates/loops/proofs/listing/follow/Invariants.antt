-- `loops::listing::follow` meets its contract: the latencies before the present one are done. Assumes nothing.
use Rattle.loops.proofs.FollowLaws.{Following}
use Rattle.loops.proofs.listing.follow.Given as goal

abbrev pub invariant-loop-latency : goal.invariant-loop-latency
invariant-loop-latency l = Following l.initial.work l.work l.rules l.count l.at l.s l.found l.latency
