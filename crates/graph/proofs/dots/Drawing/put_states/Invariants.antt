-- `graph::dots::Drawing::put_states` meets its contract. The loop's invariant: the arcs of the states passed are written. Assumes nothing.
use Prim.Native.Nat.{◌*◌}
use Rattle.words.specs.Below.{join_below}
use Rattle.text.specs.Wrote.{Put}
use Rattle.graph.proofs.DotLaws.{arcs_at}
use Rattle.graph.proofs.dots.Drawing.put_states.Given as goal

abbrev pub invariant-loop-state : goal.invariant-loop-state
invariant-loop-state l = Put (3531 * l.state-index) l.initial.out l.at (join_below l.state-index (arcs_at l.self.columns l.self.vector l.self.cycle.now l.states)) l.out l.end
