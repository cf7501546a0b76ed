-- `mean_cycle::search::step` meets its contract: each of its three ways is a law of Steps. Assumes nothing.
use Prim.Native.Nat.{◌+◌}
use native.Mathlib.Omega.{arith}
use Rattle.mean_cycle.proofs.Frames.{ready_few, ready_cost, ready_held, tree_ends}
use Rattle.mean_cycle.proofs.Steps.{calm_arc, stepped_still, stepped_found, stepped_moved, gain_fits}
use Rattle.mean_cycle.proofs.search.step.Goals as goal

pub overflow_cast-up : goal.overflow_cast-up
overflow_cast-up c = omega (arith, c.slice_known-2-1.given (768 + c.args.v))

pub overflow_add-up-2 : goal.overflow_add-up-2
overflow_add-up-2 c =
    let h = ready_held c.requires.ready c.requires.v_lt_nodes.0 in
    omega (arith, c.slice_known-2-1.given (768 + c.args.v))

pub overflow_mul-cost : goal.overflow_mul-cost
overflow_mul-cost c =
    omega (arith, ready_cost c.args.t c.requires.ready (omega (arith, c.requires.v_lt_nodes.1.small)))

pub overflow_cast-down : goal.overflow_cast-down
overflow_cast-down c = omega (arith, c.slice_known-3-1.given (768 + c.target-x.result))

pub overflow_add-down-2 : goal.overflow_add-down-2
overflow_add-down-2 c =
    omega (arith, c.slice_known-3-1.given (768 + c.target-x.result), ready_cost c.args.t c.requires.ready (omega (arith, c.requires.v_lt_nodes.1.small)))

pub returns-then-up-down : goal.returns-then-up-down
returns-then-up-down c =
    stepped_still c.requires.ready c.requires.tree (calm_arc c.args.best c.requires.ready.listing c.target-x.ensures c.if-up-down.true) c.still.ensures.0 c.still.ensures.1

pub climb-k-requires : goal.climb-k-requires
climb-k-requires c =
    record { nodes_bound = (ready_few c.requires.ready, (c.requires.ready.listing.room, c.requires.v_lt_nodes.0)); ends = tree_ends c.requires.tree _ c.requires.v_lt_nodes.0 }

pub trace-s-requires : goal.trace-s-requires
trace-s-requires c =
    record {
      n = c.args.graph.nodes;
      x = c.target-x.result;
      few = ready_few c.requires.ready;
      room = c.requires.ready.listing.room;
      here = c.requires.v_lt_nodes.0;
      low = c.target-x.ensures.high;
      short = c.if-k-nodes.true;
      path = c.climb-k.ensures.met c.if-k-nodes.true;
      labels = λ y l q. (c.requires.tree.arc y l q).high;
    }

pub returns-then-k-nodes : goal.returns-then-k-nodes
returns-then-k-nodes c =
    stepped_found _ _ _ _ _ _ _ _ _
    (ready_few c.requires.ready)
    c.requires.tree
    c.target-x.ensures
    (c.climb-k.ensures.met c.if-k-nodes.true)
    (tree_ends c.requires.tree _ c.requires.v_lt_nodes.0)
    c.trace-s.ensures
    c.if-up-down.false

pub relink-requires : goal.relink-requires
relink-requires c =
    omega (arith, gain_fits c.requires.ready c.requires.tree c.requires.v_lt_nodes.0, ready_few c.requires.ready, c.requires.ready.listing.room, c.target-x.ensures.leaves, c.target-x.ensures.enters, c.target-x.ensures.high)

pub returns : goal.returns
returns c =
    stepped_moved _ _ _ _ _ _ _ _
    c.requires.ready
    c.requires.tree
    c.target-x.ensures
    (c.climb-k.ensures.missed c.if-k-nodes.false)
    c.relink.ensures
    c.if-up-down.false
