use Rattle.std.proofs.Common.{◌+◌, ◌≤◌, sym, ◌∙◌, arith}
use Rattle.collision.specs.Pipeline.{latency}
use Rattle.collision.proofs.StartLaws.{latency_least}
use Rattle.judge.proofs.CycleLaws.{good_cycle_lem}
use Rattle.judge.proofs.IntervalLaws.{passed_more, passed_hit, passed_all, passed_far}
use Rattle.judge.proofs.start_meets.Goals as goal
use Rattle.judge.proofs.start_meets.Goals.{Else-interval-gt32}

-- the interval grows with each step
grown : (c : Else-interval-gt32) → c.loop-step.step + 1 ≤ c.loop-step.interval + latency c.args.cycle.now (c.args.start + c.loop-step.step)
grown c = omega (arith, latency_least 1 _ (good_cycle_lem _ c.requires.0) (c.args.start + c.loop-step.step))

pub returns-then-interval-gt32 : goal.returns-then-interval-gt32
returns-then-interval-gt32 c =
    sym (passed_far _ _ _ c.loop-step.step c.loop-step.interval c.ranges.vector.fits c.loop-step.invariant.2 c.if-interval-gt32.true)

pub overflow_sub-interval : goal.overflow_sub-interval
overflow_sub-interval c = omega (arith, grown (goal.at.overflow_sub-interval c).Else-interval-gt32)

pub returns-then-test : goal.returns-then-test
returns-then-test c =
    let g = grown (goal.at.returns-then-test c).Else-interval-gt32 in
    sym (passed_hit _ _ _ c.loop-step.step c.loop-step.interval c.loop-step.invariant.2 (omega arith) (sym c.test.ensures ∙ c.if-test.true))

pub loop-step-preserved : goal.loop-step-preserved
loop-step-preserved c = (
  grown (goal.at.loop-step-preserved c).Else-interval-gt32,
  omega arith,
  passed_more _ _ _ c.loop-step.step c.loop-step.interval c.loop-step.invariant.2 (sym c.test.ensures ∙ c.if-test.false),
)

pub returns : goal.returns
returns c = sym (passed_all _ _ _ c.loop-step.step c.loop-step.interval c.loop-step.invariant.2 (omega arith))
