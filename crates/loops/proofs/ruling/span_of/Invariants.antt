-- `loops::ruling::span_of` meets its contract. Assumes nothing.
use mathlib.Core.Path.{◌≡◌}
use Prim.Native.Nat.{◌+◌}
use Rattle.words.specs.Below.{max_below, span_below}
use Rattle.unit.specs.Unit.{marked}
use Rattle.collision.specs.Vector.{collides}
use Rattle.loops.proofs.ruling.span_of.Given as goal

abbrev pub invariant-loop-r : goal.invariant-loop-r
invariant-loop-r l = l.best ≡ max_below l.r (λ r. span_below 32 (λ k. collides (marked l.u) l.q r (k + 1)))
