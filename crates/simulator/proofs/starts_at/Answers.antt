-- `simulator::starts_at` meets its contract. Assumes nothing.
use Prim.Native.Nat.{◌≤◌}
use native.Mathlib.Omega.{arith}
use Rattle.plan_record.proofs.CycleLaws.{total_most}
use Rattle.simulator.proofs.PositionLaws.{passed_more, passed_all, passed_end}
use Rattle.simulator.proofs.starts_at.Goals as goal
use Rattle.simulator.proofs.starts_at.Goals.{else-loop-latency-test, then-loop-latency-test+then-position-next}

pub overflow_add-next : goal.overflow_add-next
overflow_add-next c = omega (arith, total_most _ c.requires.0)

pub loop-latency-preserved : goal.loop-latency-preserved
loop-latency-preserved c = passed_more _ _ _ _ c.loop-latency.invariant c.loop-latency-test.true c.if-position-next.false

pub returns : goal.returns
returns c =
    let far : c.args.position ≤ c.loop-latency.next =
    elim c.loop-latency-test.branch [
      | else-loop-latency-test w ↦ omega (arith, passed_all _ _ _ _ c.loop-latency.invariant (omega arith), c.requires.1)
      | then-loop-latency-test+then-position-next w ↦ w.if-position-next.true
    ] in
    passed_end _ _ _ _ c.loop-latency.invariant c.requires.0 c.requires.1 (omega arith) far
