-- `loops::ruling::widest` meets its contract. Assumes nothing.
use mathlib.Core.Path.{◌≡◌}
use Prim.Native.Nat.{◌+◌}
use Rattle.words.specs.Below.{max_below, span_below}
use Rattle.unit.specs.Unit.{marked}
use Rattle.collision.specs.Vector.{collides}
use Rattle.loops.proofs.ruling.widest.Given as goal

abbrev pub invariant-loop-q : goal.invariant-loop-q
invariant-loop-q l = l.best ≡ max_below l.q (λ q. max_below 5 (λ r. span_below 32 (λ k. collides (marked l.u) q r (k + 1))))
