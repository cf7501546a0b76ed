-- `diagram::follow` meets its contract: the latencies that are left lead to the list that is asked. Assumes nothing.
use mathlib.Core.Path.{refl, ◌∙◌}
use native.Mathlib.Omega.{arith}
use Rattle.words.proofs.ZeroLaws.{zero_most}
use Rattle.diagram.proofs.FollowLaws.{follow_start, follow_more, follow_over, follow_end, follow_next, follow_past, follow_free}
use Rattle.diagram.proofs.follow.Goals as goal

pub offset_bounds-work-at : goal.offset_bounds-work-at
offset_bounds-work-at c = omega (arith, c.requires.index.few)

pub bounds-work-at : goal.bounds-work-at
bounds-work-at c = omega (arith, c.requires.index.few, c.requires.index.room)

pub overflow_add-latency : goal.overflow_add-latency
overflow_add-latency c =
    omega (arith, c.zero_from-latency.ensures, c.requires.narrow, zero_most _ _ 0 c.requires.small)

pub loop-latency-init : goal.loop-latency-init
loop-latency-init c =
    let r = follow_start _ _ _ _ _ c.requires.index in (
      follow_next 0 _ r refl c.requires.small (omega arith) c.zero_from-latency.ensures,
      follow_free 0 _ r c.requires.small c.requires.narrow c.zero_from-latency.ensures,
    )

pub overflow_add-columns : goal.overflow_add-columns
overflow_add-columns c = omega (arith, c.requires.narrow)

pub visit-found-requires : goal.visit-found-requires
visit-found-requires c =
    let r = c.loop-latency.invariant in
    (omega (arith, c.requires.narrow), (r.1, r.0.index))

pub shape_of-work-then-found-gt256 : goal.shape_of-work-then-found-gt256
shape_of-work-then-found-gt256 c =
    c.visit-found.ensures.confined.size ∙ c.loop-latency.invariant.0.confined.size

pub returns-then-found-gt256 : goal.returns-then-found-gt256
returns-then-found-gt256 c =
    follow_over c.loop-latency.invariant.0 c.requires.small (omega (arith, c.loop-latency-test.true)) c.visit-found.ensures c.if-found-gt256.true

pub overflow_add-latency-in-loop-latency : goal.overflow_add-latency-in-loop-latency
overflow_add-latency-in-loop-latency c =
    omega (arith, c.zero_from-latency-in-loop-latency.ensures, c.requires.narrow, c.loop-latency-test.true, zero_most _ _ c.loop-latency.latency c.requires.small)

pub loop-latency-smaller : goal.loop-latency-smaller
loop-latency-smaller c =
    omega (arith, c.loop-latency.invariant.0.most, c.loop-latency-test.true, follow_past c.loop-latency.latency _ c.loop-latency.invariant.0 c.zero_from-latency-in-loop-latency.ensures)

pub loop-latency-preserved : goal.loop-latency-preserved
loop-latency-preserved c =
    let r = follow_more c.loop-latency.invariant.0 c.requires.small (omega (arith, c.loop-latency-test.true)) c.visit-found.ensures c.if-found-gt256.false in (
      follow_next c.loop-latency.latency _ r refl c.requires.small (omega (arith, c.loop-latency-test.true)) c.zero_from-latency-in-loop-latency.ensures,
      follow_free c.loop-latency.latency _ r c.requires.small c.requires.narrow c.zero_from-latency-in-loop-latency.ensures,
    )

pub shape_of-work : goal.shape_of-work
shape_of-work c = c.loop-latency.invariant.0.confined.size

pub returns : goal.returns
returns c = follow_end c.loop-latency.invariant.0 (omega (arith, c.loop-latency-test.false))
