-- `mean_cycle::search::visit` meets its contract: the latencies below t are done. Assumes nothing.
use mathlib.Core.Path.{refl}
use Prim.Native.Nat.{◌+◌}
use native.Mathlib.Omega.{arith}
use Rattle.mean_cycle.proofs.Frames.{ready_cost, ready_held}
use Rattle.mean_cycle.proofs.Targets.{next_permits}
use Rattle.mean_cycle.proofs.Rounds.{visit_start, visit_next, visit_permits, visit_past, visit_more, visit_found, visit_stop, visit_end}
use Rattle.mean_cycle.proofs.search.visit.Goals as goal

pub overflow_cast-last : goal.overflow_cast-last
overflow_cast-last c = omega (arith, c.requires.ready.listing.narrow)

pub overflow_add-last : goal.overflow_add-last
overflow_add-last c = omega (arith, c.requires.ready.listing.narrow)

pub offset_bounds-work-v : goal.offset_bounds-work-v
offset_bounds-work-v c =
    let h = ready_held c.requires.ready c.requires.v_lt_nodes in
    omega arith

pub bounds-work-v : goal.bounds-work-v
bounds-work-v c =
    let h = ready_held c.requires.ready c.requires.v_lt_nodes in
    omega arith

pub next_latency-t-requires : goal.next_latency-t-requires
next_latency-t-requires c = omega arith

pub loop-t-init : goal.loop-t-init
loop-t-init c = (
  visit_next 0 _ (visit_start _ c.requires.ready c.requires.tree) c.requires.ready.listing c.requires.v_lt_nodes refl (omega arith) c.next_latency-t.ensures,
  λ le. next_permits 0 c.requires.ready.listing c.requires.v_lt_nodes c.next_latency-t.ensures le,
)

pub overflow_add-up : goal.overflow_add-up
overflow_add-up c =
    let h = ready_held c.loop-t.invariant.0.ready c.requires.v_lt_nodes in
    omega arith

pub offset_bounds-work-v-in-loop-t : goal.offset_bounds-work-v-in-loop-t
offset_bounds-work-v-in-loop-t c =
    let h = ready_held c.loop-t.invariant.0.ready c.requires.v_lt_nodes in
    omega arith

pub bounds-work-v-in-loop-t : goal.bounds-work-v-in-loop-t
bounds-work-v-in-loop-t c =
    let h = ready_held c.loop-t.invariant.0.ready c.requires.v_lt_nodes in
    omega arith

pub overflow_cast-up : goal.overflow_cast-up
overflow_cast-up c = omega (arith, c.slice_known-in-loop-t-1.given (768 + c.args.v))

pub overflow_add-up-in-loop-t : goal.overflow_add-up-in-loop-t
overflow_add-up-in-loop-t c =
    let h = ready_held c.loop-t.invariant.0.ready c.requires.v_lt_nodes in
    omega (arith, c.slice_known-in-loop-t-1.given (768 + c.args.v))

pub overflow_mul-count : goal.overflow_mul-count
overflow_mul-count c = omega (arith, ready_cost _ c.loop-t.invariant.0.ready c.loop-t-test.true)

pub shape_of-work-then-up-count : goal.shape_of-work-then-up-count
shape_of-work-then-up-count c = c.loop-t.invariant.0.frame.size

pub returns-then-up-count : goal.returns-then-up-count
returns-then-up-count c = visit_stop c.loop-t.invariant.0 c.loop-t-test.true c.if-up-count.true

pub step-s-requires : goal.step-s-requires
step-s-requires c =
    let i = c.loop-t.invariant in
    record { ready = i.0.ready; tree = i.0.tree; v_lt_nodes = (c.requires.v_lt_nodes, visit_permits i.0 c.requires.v_lt_nodes (i.1 c.loop-t-test.true)) }

pub shape_of-work-then-found : goal.shape_of-work-then-found
shape_of-work-then-found c = (visit_found c.loop-t.invariant.0 c.step-s.ensures c.if-found.true).frame.size

pub returns-then-found : goal.returns-then-found
returns-then-found c = visit_found c.loop-t.invariant.0 c.step-s.ensures c.if-found.true

pub overflow_add-moved : goal.overflow_add-moved
overflow_add-moved c =
    let i = c.loop-t.invariant.0 in
    omega (arith, c.step-s.ensures.one, i.few, i.upto, i.ready.listing.narrow)

pub next_latency-t-requires-in-loop-t : goal.next_latency-t-requires-in-loop-t
next_latency-t-requires-in-loop-t c =
    let i = c.loop-t.invariant.0 in
    omega (arith, i.upto, i.ready.listing.narrow)

pub loop-t-smaller : goal.loop-t-smaller
loop-t-smaller c =
    omega (arith, c.loop-t-test.true, visit_past c.loop-t.t _ c.loop-t.invariant.0 c.next_latency-t-in-loop-t.ensures)

pub loop-t-preserved : goal.loop-t-preserved
loop-t-preserved c =
    let done = visit_more c.loop-t.invariant.0 c.loop-t-test.true c.step-s.ensures c.if-found.false in (
      visit_next c.loop-t.t _ done c.requires.ready.listing c.requires.v_lt_nodes refl (omega (arith, c.loop-t-test.true)) c.next_latency-t-in-loop-t.ensures,
      λ le. next_permits c.loop-t.t c.requires.ready.listing c.requires.v_lt_nodes c.next_latency-t-in-loop-t.ensures le,
    )

pub shape_of-work : goal.shape_of-work
shape_of-work c = c.loop-t.invariant.0.frame.size

pub returns : goal.returns
returns c = visit_end c.loop-t.invariant.0 c.loop-t-test.false
