-- `plan_record::cycle_sum` meets its contract. Assumes nothing.
use native.Mathlib.Omega.{arith}
use borrow.Author.Count.{below_more}
use Rattle.collision.proofs.StartLaws.{sum_more}
use Rattle.plan_record.proofs.CycleLaws.{no_sum, summed_end}
use Rattle.plan_record.proofs.cycle_sum.Goals as goal

pub returns-then-list-gt256 : goal.returns-then-list-gt256
returns-then-list-gt256 c = no_sum _ (λ r. omega (arith, r.few))

pub returns-then-latency-eq0 : goal.returns-then-latency-eq0
returns-then-latency-eq0 c = no_sum _ (λ r. omega (arith, r.least c.loop-latency.latency-index c.loop-latency-test.true))

pub returns-then-latency-gt32 : goal.returns-then-latency-gt32
returns-then-latency-gt32 c = no_sum _ (λ r. omega (arith, r.most c.loop-latency.latency-index c.loop-latency-test.true, c.if-latency-gt32.true))

pub loop-latency-preserved : goal.loop-latency-preserved
loop-latency-preserved c =
    record {
      least = below_more _ _ c.loop-latency.invariant.least (omega arith);
      most = below_more _ _ c.loop-latency.invariant.most c.if-latency-gt32.false;
      adds = sum_more _ _ _ c.loop-latency-test.true c.loop-latency.invariant.adds;
      low = omega (arith, c.if-latency-gt32.false);
    }

pub returns : goal.returns
returns c = summed_end _ _ _ c.if-list-gt256.false (omega arith) c.loop-latency.invariant
