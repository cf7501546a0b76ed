-- `plan_record::ring_byte` meets its contract. Assumes nothing.
use mathlib.Core.Path.{◌∙◌, sym}
use native.Mathlib.Omega.{arith}
use Rattle.plan_record.proofs.TurnLaws.{turn_first, turn_start, turn_tick, turn_small, turn_byte, turn_reached}
use Rattle.plan_record.proofs.ring_byte.Goals as goal
use Rattle.plan_record.proofs.ring_byte.Goals.{then-starts_here, else-starts_here}

pub loop-bit-init : goal.loop-bit-init
loop-bit-init c = turn_first _ _ _ _ c.requires.1

pub loop-bit-preserved : goal.loop-bit-preserved
loop-bit-preserved c =
    elim c.if-starts_here.branch [
      | then-starts_here w ↦ turn_start _ _ c.loop-bit.bit _ c.loop-bit.passed c.loop-bit.start c.loop-bit.invariant c.loop-bit-test.true _ _ _ (sym c.starts_here.ensures ∙ w.if-starts_here.true) w.byte-is w.passed-is w.start-is
      | else-starts_here w ↦ turn_tick _ _ c.loop-bit.bit _ c.loop-bit.passed c.loop-bit.start c.loop-bit.invariant c.loop-bit-test.true _ _ _ (sym c.starts_here.ensures ∙ w.if-starts_here.false) (w.byte-is ∙ w.set-byte.ensures) w.passed-is w.start-is
    ]

pub overflow_cast-made : goal.overflow_cast-made
overflow_cast-made c = let h = turn_small _ _ _ _ _ _ c.loop-bit.invariant (omega arith) in omega arith

pub returns : goal.returns
returns c =
    record {
      byte = turn_byte _ _ _ _ _ _ c.loop-bit.invariant (omega arith);
      reached = turn_reached _ _ _ _ _ _ c.loop-bit.invariant (omega arith);
    }
