-- `cycles::least_latency` meets its contract: the columns before the latency are 1. Assumes nothing.
use native.Mathlib.Omega.{arith}
use Rattle.words.proofs.Tests.{off, on}
use Rattle.cycles.proofs.LatencyLaws.{try_found, try_more, try_last}
use Rattle.cycles.proofs.least_latency.Goals as goal
use Rattle.cycles.proofs.least_latency.Goals.{else-loop-latency-test, then-loop-latency-test+else-not-test+else-latency-columns}

pub returns-then-not-test : goal.returns-then-not-test
returns-then-not-test c =
    try_found c.loop-latency.invariant (omega arith) (off c.if-not-test.true-raw c.test.ensures)

pub returns : goal.returns
returns c =
    elim c.loop-latency-test.branch [
      | else-loop-latency-test w ↦ omega (arith, try_last c.loop-latency.invariant (omega arith))
      | then-loop-latency-test+else-not-test+else-latency-columns w ↦ omega (arith, try_last (try_more c.loop-latency.invariant (omega arith) (on w.if-not-test.false-raw w.test.ensures)) (omega arith))
    ]
