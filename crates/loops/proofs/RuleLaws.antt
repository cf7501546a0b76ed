-- Steps by the rules. Assumes nothing.
use Prim.Native.Nat.{ℕ, ◌+◌, ◌<◌}
use native.Mathlib.Nat.{mod-lt}
use native.Mathlib.Omega.{arith}
use Rattle.loops.specs.declared.steps.Rules.{Rules}
use Rattle.loops.specs.Inner.{position_after}

pub position_low : (R : Rules) (p : ℕ) → position_after R p < 8
position_low R p = omega (arith, mod-lt (p + 1) R.some, R.few)
