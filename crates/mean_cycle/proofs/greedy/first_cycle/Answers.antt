-- `mean_cycle::greedy::first_cycle` meets its contract: the nodes that the walk left are different, so it ends. Assumes nothing.
use Prim.Native.Nat.{◌+◌}
use native.Mathlib.Omega.{arith}
use lib.ListN.{length-set}
use Rattle.mean_cycle.proofs.Frames.{listing_few}
use Rattle.mean_cycle.proofs.Rounds.{round_frame}
use Rattle.mean_cycle.proofs.FirstCycle.{walk_inside, walk_fresh, walk_fewer, walk_start, walk_more, walk_copyable, walk_end}
use Rattle.mean_cycle.proofs.greedy.first_cycle.Goals as goal

pub reset-requires : goal.reset-requires
reset-requires c = (listing_few c.requires, c.requires.room)

pub loop-graph-init : goal.loop-graph-init
loop-graph-init c = walk_start c.requires c.reset.ensures

pub overflow_add-left : goal.overflow_add-left
overflow_add-left c =
    let i = walk_inside c.loop-graph.invariant in
    omega arith

pub offset_bounds-work-v : goal.offset_bounds-work-v
offset_bounds-work-v c =
    let i = walk_inside c.loop-graph.invariant in
    omega arith

pub bounds-work-v : goal.bounds-work-v
bounds-work-v c =
    let i = walk_inside c.loop-graph.invariant in
    omega arith

pub overflow_cast-left : goal.overflow_cast-left
overflow_cast-left c = omega (arith, c.slice_known-in-loop-graph-1.given (768 + c.loop-graph.v))

pub overflow_sub-left : goal.overflow_sub-left
overflow_sub-left c = omega (arith, c.if-left-ne0.true)

pub copy-requires : goal.copy-requires
copy-requires c = walk_copyable _ _ _ _ _ c.loop-graph.invariant c.if-left-ne0.true

pub shape_of-work-then-left-ne0 : goal.shape_of-work-then-left-ne0
shape_of-work-then-left-ne0 c =
    (walk_end _ _ _ _ _ c.loop-graph.invariant c.if-left-ne0.true _ _ c.copy.ensures (round_frame c.reset.ensures)).frame.size

pub returns-then-left-ne0 : goal.returns-then-left-ne0
returns-then-left-ne0 c =
    walk_end _ _ _ _ _ c.loop-graph.invariant c.if-left-ne0.true _ _ c.copy.ensures (round_frame c.reset.ensures)

pub least-hop-requires : goal.least-hop-requires
least-hop-requires c = record { listing = c.loop-graph.invariant.listing; v_lt_nodes = c.loop-graph.invariant.inside }

pub overflow_add-work : goal.overflow_add-work
overflow_add-work c =
    let i = walk_inside c.loop-graph.invariant in
    omega arith

pub overflow_cast-work : goal.overflow_cast-work
overflow_cast-work c =
    let i = walk_inside c.loop-graph.invariant in
    omega arith

pub overflow_add-work-in-loop-graph : goal.overflow_add-work-in-loop-graph
overflow_add-work-in-loop-graph c =
    let i = walk_inside c.loop-graph.invariant in
    omega arith

pub offset_bounds-work-v-in-loop-graph : goal.offset_bounds-work-v-in-loop-graph
offset_bounds-work-v-in-loop-graph c =
    let i = walk_inside c.loop-graph.invariant in
    omega arith

pub bounds-work-v-in-loop-graph : goal.bounds-work-v-in-loop-graph
bounds-work-v-in-loop-graph c =
    let i = walk_inside c.loop-graph.invariant in
    omega arith

pub overflow_cast-work-in-loop-graph : goal.overflow_cast-work-in-loop-graph
overflow_cast-work-in-loop-graph c = omega (arith, c.least-hop.ensures.high)

pub overflow_add-work-in-loop-graph-2 : goal.overflow_add-work-in-loop-graph-2
overflow_add-work-in-loop-graph-2 c =
    let i = walk_fresh c.loop-graph.invariant c.if-left-ne0.false in
    omega arith

pub offset_bounds-work-i : goal.offset_bounds-work-i
offset_bounds-work-i c =
    let i = walk_fresh c.loop-graph.invariant c.if-left-ne0.false in
    omega arith

pub bounds-work-i : goal.bounds-work-i
bounds-work-i c =
    let i = walk_fresh c.loop-graph.invariant c.if-left-ne0.false in
    simp length-set (omega arith)

pub overflow_add-i : goal.overflow_add-i
overflow_add-i c =
    let i = walk_fresh c.loop-graph.invariant c.if-left-ne0.false in
    omega arith

pub loop-graph-smaller : goal.loop-graph-smaller
loop-graph-smaller c = omega (arith, walk_fewer c.loop-graph.invariant c.if-left-ne0.false)

pub loop-graph-preserved : goal.loop-graph-preserved
loop-graph-preserved c = walk_more _ _ _ _ _ _ _ c.loop-graph.invariant c.if-left-ne0.false c.least-hop.ensures
