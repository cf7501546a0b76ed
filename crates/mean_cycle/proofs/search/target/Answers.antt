-- `mean_cycle::search::target` meets its contract: the arc, by the table or by the index, is a law of Targets. Assumes nothing.
use mathlib.Core.Path.{refl}
use native.Mathlib.Omega.{arith}
use Prim.Native.Nat.{◌+◌, ◌*◌}
use Rattle.mean_cycle.proofs.Targets.{target_arc, table_arc, table_room}
use Rattle.mean_cycle.proofs.search.target.Goals as goal

pub bounds-work-at : goal.bounds-work-at
bounds-work-at c =
    omega (arith, table_room _ _ _ _ c.requires.listing c.requires.v_lt_nodes.0 c.requires.v_lt_nodes.1 c.if-graph.true, c.requires.listing.few, c.requires.listing.narrow, c.requires.v_lt_nodes.1.small)

pub overflow_cast-result : goal.overflow_cast-result
overflow_cast-result c = let a = c.args in omega (arith, c.shared_slice_known-then-graph-1.given (1791 + a.v * 32 + a.t))

pub returns-then-graph : goal.returns-then-graph
returns-then-graph c =
    table_arc _ _ _ _ c.requires.listing c.requires.v_lt_nodes.0 c.requires.v_lt_nodes.1 _ c.if-graph.true refl

pub returns : goal.returns
returns c =
    target_arc _ _ _ _ c.requires.listing c.requires.v_lt_nodes.0 c.requires.v_lt_nodes.1 _ _ c.if-graph.false c.shift.ensures c.place.ensures
