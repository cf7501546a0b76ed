-- `cycles::walk` meets its contract: each event of the loop is a law of the walk. Assumes nothing.
use Prim.Native.Nat.{◌+◌}
use mathlib.Core.Path.{sym, subst}
use native.Mathlib.Omega.{arith}
use Rattle.cycles.specs.Inner.{Ready}
use Rattle.cycles.proofs.WalkLaws.{walk_start, walk_few, walk_room, walk_place, walk_fewer, walk_ready, walk_more, walk_back, walk_end}
use Rattle.cycles.proofs.walk.Goals as goal

pub clear_marks-requires : goal.clear_marks-requires
clear_marks-requires c = c.requires.room

pub loop-work-init : goal.loop-work-init
loop-work-init c =
    walk_start c.requires c.clear_marks.ensures

pub overflow_add-at : goal.overflow_add-at
overflow_add-at c = omega (arith, walk_place c.loop-work.invariant)

pub offset_bounds-work-at : goal.offset_bounds-work-at
offset_bounds-work-at c = omega (arith, walk_place c.loop-work.invariant)

pub bounds-work-at : goal.bounds-work-at
bounds-work-at c = omega (arith, walk_place c.loop-work.invariant, walk_room c.loop-work.invariant)

pub take_step-at-requires : goal.take_step-at-requires
take_step-at-requires c =
    subst (λ n. Ready c.loop-work.work n c.loop-work.at c.loop-work.step) (sym c.width_of-columns.ensures) (walk_ready c.loop-work.invariant c.loop-work-test.true)

pub overflow_add-step : goal.overflow_add-step
overflow_add-step c =
    omega (arith, (walk_ready c.loop-work.invariant c.loop-work-test.true).few)

pub loop-work-smaller : goal.loop-work-smaller
loop-work-smaller c =
    omega (arith, walk_fewer c.loop-work.invariant c.loop-work-test.true)

pub loop-work-preserved : goal.loop-work-preserved
loop-work-preserved c =
    walk_more c.loop-work.invariant c.loop-work-test.true c.width_of-columns.ensures c.take_step-at.ensures

pub overflow_add-first : goal.overflow_add-first
overflow_add-first c = omega (arith, walk_place c.loop-work.invariant)

pub offset_bounds-work-at-2 : goal.offset_bounds-work-at-2
offset_bounds-work-at-2 c = omega (arith, walk_place c.loop-work.invariant)

pub bounds-work-at-2 : goal.bounds-work-at-2
bounds-work-at-2 c =
    omega (arith, walk_place c.loop-work.invariant, walk_room c.loop-work.invariant)

pub overflow_cast-first : goal.overflow_cast-first
overflow_cast-first c = omega (arith, c.slice_known-3-1.given (768 + c.loop-work.at))

pub overflow_sub-first : goal.overflow_sub-first
overflow_sub-first c = (walk_back c.loop-work.invariant c.loop-work-test.false).0

pub overflow_add-from : goal.overflow_add-from
overflow_add-from c =
    omega (arith, (walk_back c.loop-work.invariant c.loop-work-test.false).1, walk_few c.loop-work.invariant, c.loop-work.invariant.listing.index.few)

pub overflow_sub-count : goal.overflow_sub-count
overflow_sub-count c = omega (arith, (walk_back c.loop-work.invariant c.loop-work-test.false).1)

pub shape_of-work : goal.shape_of-work
shape_of-work c =
    (walk_end c.loop-work.invariant c.loop-work-test.false c.clear_marks.ensures).size

pub returns : goal.returns
returns c =
    walk_end c.loop-work.invariant c.loop-work-test.false c.clear_marks.ensures
