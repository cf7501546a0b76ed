-- `graph::dots::Drawing::is_on_cycle` meets its contract. The loop's invariant: no start passed is the arc. Assumes nothing.
use mathlib.Core.Path.{◌≡◌}
use mathlib.Core.Bool.{false}
use Prim.Native.Nat.{ℕ, ◌<◌}
use Rattle.graph.proofs.DotLaws.{takes}
use Rattle.graph.proofs.dots.Drawing.is_on_cycle.Given as goal

abbrev pub invariant-loop-j : goal.invariant-loop-j
invariant-loop-j l = (k : ℕ) → k < l.j → takes l.self.on l.self.cycle.now l.state l.latency k ≡ false
