-- `cycles::first_rotation` meets its contract: of the rotations tried, this one comes first. Assumes nothing.
use Prim.Native.Nat.{◌+◌}
use mathlib.Core.Path.{sym, subst}
use Rattle.words.proofs.Tests.{off, on}
use Rattle.cycles.proofs.OrderLaws.{Leading, lead_start, lead_keep, lead_change, lead_end}
use Rattle.cycles.proofs.first_rotation.Goals as goal
use Rattle.cycles.proofs.first_rotation.Goals.{then-not-comes_first, else-not-comes_first}

pub loop-rotation-init : goal.loop-rotation-init
loop-rotation-init c = lead_start _

pub loop-rotation-preserved : goal.loop-rotation-preserved
loop-rotation-preserved c =
    let s = c.args.cycle.now in
    elim c.if-not-comes_first.branch [
      | then-not-comes_first w ↦ subst (λ x. Leading s x (c.loop-rotation.rotation + 1)) (sym w.first-is) (lead_change c.loop-rotation.invariant c.loop-rotation-test.true (off w.if-not-comes_first.true-raw c.comes_first.ensures))
      | else-not-comes_first w ↦ subst (λ x. Leading s x (c.loop-rotation.rotation + 1)) (sym w.first-is) (lead_keep c.loop-rotation.invariant (on w.if-not-comes_first.false-raw c.comes_first.ensures))
    ]

pub returns : goal.returns
returns c = lead_end c.loop-rotation.invariant c.loop-rotation-test.false
