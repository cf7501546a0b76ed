-- `diagram::explore` meets its contract: the states that are left lead to the list of all states. Assumes nothing.
use mathlib.Core.Path.{◌∙◌}
use native.Mathlib.Omega.{arith}
use Rattle.diagram.proofs.EnlistLaws.{explore_start, explore_ready, explore_more, explore_over, explore_end}
use Rattle.diagram.proofs.explore.Goals as goal

pub loop-at-init : goal.loop-at-init
loop-at-init c =
    explore_start _ _ _ c.width_of-columns.ensures c.ranges.vector.fits c.requires

pub follow-count-requires : goal.follow-count-requires
follow-count-requires c = explore_ready c.loop-at.invariant c.loop-at-test.true

pub shape_of-work-then-count-gt256 : goal.shape_of-work-then-count-gt256
shape_of-work-then-count-gt256 c =
    c.follow-count.ensures.confined.size ∙ c.loop-at.invariant.confined.size

pub returns-then-count-gt256 : goal.returns-then-count-gt256
returns-then-count-gt256 c =
    explore_over c.loop-at.invariant c.loop-at-test.true c.follow-count.ensures c.if-count-gt256.true

pub overflow_add-at : goal.overflow_add-at
overflow_add-at c =
    omega (arith, c.loop-at.invariant.index.few, c.loop-at-test.true)

pub loop-at-smaller : goal.loop-at-smaller
loop-at-smaller c =
    omega (arith, c.loop-at.invariant.index.few, c.loop-at-test.true)

pub loop-at-preserved : goal.loop-at-preserved
loop-at-preserved c =
    explore_more c.loop-at.invariant c.loop-at-test.true c.follow-count.ensures c.if-count-gt256.false

pub shape_of-work : goal.shape_of-work
shape_of-work c = c.loop-at.invariant.confined.size

pub returns : goal.returns
returns c = explore_end c.loop-at.invariant c.loop-at-test.false
