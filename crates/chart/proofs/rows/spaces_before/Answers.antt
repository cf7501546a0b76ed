-- `chart::rows::spaces_before` meets its contract. Assumes nothing.
use Prim.Native.Nat.{◌/◌}
use mathlib.Core.Path.{sym, subst}
use native.Mathlib.Omega.{arith}
use Rattle.text.proofs.DecimalLaws.{decimal_length}
use Rattle.chart.proofs.DigitLaws.{Counted, counted_space, counted_digit, counted_few, counted_end}
use Rattle.chart.proofs.rows.spaces_before.Goals as goal
use Rattle.chart.proofs.rows.spaces_before.Goals.{then-rest-lt10, else-rest-lt10}

pub overflow_add-spaces : goal.overflow_add-spaces
overflow_add-spaces c = omega (arith, counted_few _ _ _ _ _ c.loop-room.invariant.0, decimal_length c.args.most 10 (omega arith) (omega (arith, c.loop-room.invariant.1)))

pub loop-room-preserved : goal.loop-room-preserved
loop-room-preserved c =
    let a = c.args in (
      elim c.if-rest-lt10.branch [
        | then-rest-lt10 w ↦ subst (λ k. Counted a.number a.most (c.loop-room.rest / 10) (c.loop-room.room / 10) k) (sym w.spaces-is) (counted_space _ _ _ _ _ c.loop-room.invariant.0 c.loop-room-test.true w.if-rest-lt10.true)
        | else-rest-lt10 w ↦ subst (λ k. Counted a.number a.most (c.loop-room.rest / 10) (c.loop-room.room / 10) k) (sym w.spaces-is) (counted_digit _ _ _ _ _ c.loop-room.invariant.0 c.loop-room-test.true w.if-rest-lt10.false)
      ],
      c.loop-room.invariant.1,
    )

pub returns : goal.returns
returns c = counted_end _ _ _ _ _ c.loop-room.invariant.0 (omega (arith, c.loop-room-test.false))
