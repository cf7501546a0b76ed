-- `graph::dots::Drawing::put_arcs` meets its contract. The loop's invariant: the arcs of the latencies passed are written. Assumes nothing.
use Prim.Native.Nat.{◌*◌}
use Rattle.words.specs.Below.{join_below}
use Rattle.text.specs.Wrote.{Put}
use Rattle.graph.specs.Inner.{permitted_text}
use Rattle.graph.proofs.dots.Drawing.put_arcs.Given as goal

abbrev pub invariant-loop-index : goal.invariant-loop-index
invariant-loop-index l = Put (107 * l.index) l.initial.out l.at (join_below l.index (permitted_text l.self.columns l.self.vector l.self.cycle.now l.state)) l.out l.end
