-- `graph::dots::settled` meets its contract. Assumes nothing.
use mathlib.Core.Path.{ap, ◌∙◌}
use native.Mathlib.Omega.{arith}
use Rattle.graph.specs.Dot.{state_before}
use Rattle.graph.proofs.DotLaws.{before_start, turn_more}
use Rattle.graph.proofs.dots.settled.Goals as goal

pub loop-init : goal.loop-init
loop-init c = before_start c.args.vector c.args.cycle.now ∙ ap (state_before c.args.vector c.args.cycle.now) (omega arith)

pub loop-latency-preserved : goal.loop-latency-preserved
loop-latency-preserved c = turn_more c.args.vector c.args.cycle.now c.loop.counter _ c.loop-latency-test.true c.loop-latency.invariant c.next_of-state.ensures
