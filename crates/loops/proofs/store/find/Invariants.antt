-- `loops::store::find` meets its contract: none of the states before i is the one. Assumes nothing.
use mathlib.Core.Path.{◌≡◌}
use Prim.Native.Nat.{ℕ, ◌<◌}
use Rattle.loops.specs.Inner.{state_of}
use Rattle.loops.proofs.store.find.Given as goal

abbrev pub invariant-loop-i : goal.invariant-loop-i
invariant-loop-i l = (j : ℕ) → j < l.i → state_of l.work j ≡ l.s → ⊥
