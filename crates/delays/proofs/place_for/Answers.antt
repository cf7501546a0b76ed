-- `delays::place_for` meets its contract. Assumes nothing.
use native.Mathlib.Omega.{arith}
use mathlib.Core.Path.{◌∙◌, sym}
use Rattle.delays.proofs.WordLaws.{found_place}
use Rattle.delays.proofs.place_for.Goals as goal

pub returns-then-not-is_taken : goal.returns-then-not-is_taken
returns-then-not-is_taken c = (
  found_place _ _ _ _ _ c.loop-place.place c.first_for-first.ensures (omega arith) (omega arith) c.loop-place.invariant (λ h. sym c.is_taken.ensures ∙ c.if-not-is_taken.true),
  omega (arith, c.requires.low, c.requires.most),
)

pub returns : goal.returns
returns c = (
  found_place _ _ _ _ _ _ c.first_for-first.ensures (omega arith) (omega arith) (λ p l k. c.loop-place.invariant p l (omega arith)) (λ h. absurd (omega arith)),
  omega (arith, c.requires.low, c.requires.most),
)
