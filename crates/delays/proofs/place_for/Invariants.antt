-- `delays::place_for` meets its contract. The loop's invariant: all places tried are taken. Assumes nothing.
use Prim.Native.Nat.{ℕ, ◌≤◌, ◌<◌}
use mathlib.Core.Path.{◌≡◌}
use mathlib.Core.Bool.{true}
use Rattle.delays.specs.Inner.{taken_at}
use Rattle.delays.proofs.place_for.Given as goal

abbrev pub invariant-loop-place : goal.invariant-loop-place
invariant-loop-place l = (p : ℕ) → l.first ≤ p → p < l.place → taken_at l.columns l.spots l.count l.latency p ≡ true
