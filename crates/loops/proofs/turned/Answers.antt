-- `loops::turned` meets its contract: the latencies stand in front of zeros, and are turned there. Assumes nothing.
use Prim.Native.Nat.{ℕ, ◌-◌}
use mathlib.Core.Path.{◌≡◌, refl, sym, ap, ap₂, ◌∙◌}
use mathlib.Core.List.{List, ◌++◌}
use native.Mathlib.Omega.{arith}
use lib.ListN.{length, set, replicate}
use Rattle.diagram.proofs.CopyLaws.{front, front_more}
use Rattle.planner.proofs.PlanLaws.{zeros, zeros_length, front_zeros}
use Rattle.loops.specs.Inner.{cycle_in}
use Rattle.loops.proofs.PlanLaws.{standing_length, standing_at, turned_is}
use Rattle.loops.proofs.turned.Goals as goal

pub loop-i-init : goal.loop-i-init
unfolding zeros
loop-i-init c = refl

pub loop-i-preserved : goal.loop-i-preserved
loop-i-preserved c =
    let l = cycle_in c.args.work.now c.args.count in
    let n = standing_length _ _ c.requires.standing in
    let e = front_more l zeros c.loop-i.i (omega (arith, n)) (omega (arith, c.requires.standing.few, zeros_length)) in
    ap₂ (λ (x : List ℕ) (y : ℕ). set x c.loop-i.i y) c.loop-i.invariant (sym (standing_at _ _ c.loop-i.i c.loop-i-test.true)) ∙ e

pub returns : goal.returns
returns c =
    let l = cycle_in c.args.work.now c.args.count in
    let n = standing_length _ _ c.requires.standing in
    let e : c.loop-i.i ≡ length l = omega (arith, c.loop-i-test.false, n) in
    turned_is l c.loop-i.bytes _ c.args.count c.args.first n
    (c.loop-i.invariant ∙ ap (front l zeros) e ∙ front_zeros l ∙ ap (λ k. l ++ replicate (256 - k) 0) n)
    c.rotate_left.ensures.after
