-- `graph::dots::settled` meets its contract. The loops' invariants: the state before the next start. Assumes nothing.
use mathlib.Core.Path.{◌≡◌}
use Prim.Native.Nat.{◌+◌, ◌*◌}
use lib.ListN.{length}
use Rattle.graph.specs.Dot.{state_before}
use Rattle.graph.proofs.dots.settled.Given as goal

abbrev pub invariant-loop-latency : goal.invariant-loop-latency
invariant-loop-latency l = l.state ≡ state_before l.vector l.cycle (l.counter * length l.cycle + l.latency-index)

abbrev pub invariant-loop : goal.invariant-loop
invariant-loop l = l.state ≡ state_before l.vector l.cycle (l.counter * length l.cycle)
