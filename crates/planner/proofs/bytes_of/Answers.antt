-- `planner::bytes_of` meets its contract. The loop's invariant: the latencies passed stand in front of zeros. Assumes nothing.
use Prim.Native.Nat.{ℕ, ◌-◌}
use mathlib.Core.Path.{◌≡◌, refl, sym, ap, ap₂, ◌∙◌}
use mathlib.Core.List.{List, ◌++◌}
use native.Mathlib.Omega.{arith}
use lib.ListN.{length, set, replicate}
use Rattle.diagram.proofs.CopyLaws.{front, front_more}
use Rattle.planner.specs.Inner.{found}
use Rattle.planner.proofs.PlanLaws.{zeros, zeros_length, found_length, found_at, front_zeros}
use Rattle.planner.proofs.bytes_of.Goals as goal

pub loop-i-init : goal.loop-i-init
unfolding zeros
loop-i-init c = refl

pub loop-i-preserved : goal.loop-i-preserved
loop-i-preserved c =
    let w = c.args.work.now in
    let n = c.args.count in
    let e = front_more (found w n) zeros c.loop-i.i (omega (arith, found_length w n c.requires)) (omega (arith, c.requires.few, zeros_length)) in
    ap₂ (λ (x : List ℕ) (y : ℕ). set x c.loop-i.i y) c.loop-i.invariant (sym (found_at w n c.loop-i.i c.loop-i-test.true)) ∙ e

pub returns : goal.returns
returns c =
    let w = c.args.work.now in
    let n = c.args.count in
    let m = found_length w n c.requires in
    let e : c.loop-i.i ≡ length (found w n) = omega (arith, c.loop-i-test.false, m) in
    c.loop-i.invariant ∙ ap (front (found w n) zeros) e ∙ front_zeros (found w n) ∙ ap (λ k. found w n ++ replicate (256 - k) 0) m
