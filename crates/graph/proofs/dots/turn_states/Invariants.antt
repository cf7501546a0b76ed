-- `graph::dots::turn_states` meets its contract. The loop's invariant: the states before the starts passed are noted. Assumes nothing.
use Rattle.graph.proofs.DotLaws.{Turning}
use Rattle.graph.proofs.dots.turn_states.Given as goal

abbrev pub invariant-loop-j : goal.invariant-loop-j
invariant-loop-j l = Turning l.vector l.cycle l.on l.state l.j
