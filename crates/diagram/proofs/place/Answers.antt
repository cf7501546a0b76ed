-- `diagram::place` meets its contract: the loop walks the links of the state's bucket, which fall. Assumes nothing.
use Prim.Native.Nat.{ℕ, ◌+◌, ◌-◌}
use native.Mathlib.Omega.{arith}
use Rattle.diagram.proofs.PlaceLaws.{place_short, place_far, walk_start, walk_end, walk_here, walk_stop, walk_more}
use Rattle.diagram.proofs.place.Goals as goal

pub returns-then-work-lt768 : goal.returns-then-work-lt768
returns-then-work-lt768 c = place_short _ _ _ c.if-work-lt768.true

pub overflow_add-at : goal.overflow_add-at
overflow_add-at c = omega arith

pub offset_bounds-work-first : goal.offset_bounds-work-first
offset_bounds-work-first c = omega arith

pub bounds-work-first : goal.bounds-work-first
bounds-work-first c = omega arith

pub overflow_cast-at : goal.overflow_cast-at
overflow_cast-at c = let i : ℕ = 256 + c.bucket_of-first.result in omega (arith, c.shared_slice_known-2-1.given i)

pub returns-then-at-gt256 : goal.returns-then-at-gt256
returns-then-at-gt256 c = place_far _ _ _ (omega arith) _ c.bucket_of-first.ensures c.if-at-gt256.true

pub loop-at-init : goal.loop-at-init
loop-at-init c = walk_start _ _ _ (omega arith) _ c.bucket_of-first.ensures c.if-at-gt256.false

pub overflow_sub-last : goal.overflow_sub-last
overflow_sub-last c = omega arith

pub offset_bounds-work-last : goal.offset_bounds-work-last
offset_bounds-work-last c = omega arith

pub bounds-work-last : goal.bounds-work-last
bounds-work-last c = omega arith

pub returns-then-work-last : goal.returns-then-work-last
returns-then-work-last c = walk_here _ _ _ _ c.loop-at.invariant c.loop-at-test.true c.if-work-last.true

pub overflow_add-link : goal.overflow_add-link
overflow_add-link c = omega arith

pub offset_bounds-work-last-in-loop-at : goal.offset_bounds-work-last-in-loop-at
offset_bounds-work-last-in-loop-at c = omega arith

pub bounds-work-last-in-loop-at : goal.bounds-work-last-in-loop-at
bounds-work-last-in-loop-at c = omega arith

pub overflow_cast-link : goal.overflow_cast-link
overflow_cast-link c =
    let i : ℕ = 512 + (c.loop-at.at - 1) in
    omega (arith, c.shared_slice_known-in-loop-at-2-1.given i)

pub returns-then-at-link : goal.returns-then-at-link
returns-then-at-link c =
    walk_stop _ _ _ _ c.loop-at.invariant c.loop-at-test.true c.if-work-last.false (omega (arith, c.if-at-link.true))

pub loop-at-smaller : goal.loop-at-smaller
loop-at-smaller c = omega arith

pub loop-at-preserved : goal.loop-at-preserved
loop-at-preserved c =
    walk_more _ _ _ _ c.loop-at.invariant c.loop-at-test.true c.if-work-last.false (omega (arith, c.if-at-link.false))

pub returns : goal.returns
returns c = walk_end _ _ _ _ c.loop-at.invariant c.loop-at-test.false
