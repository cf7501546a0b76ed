-- `loops::ruling::rows_of` meets its contract. Assumes nothing.
use mathlib.Core.Path.{◌≡◌}
use Prim.Native.Nat.{ℕ, ◌+◌, ◌/◌, ◌%◌, ◌<◌}
use lib.ListN.{length, get_or}
use Rattle.controller.specs.Bank.{row_for}
use Rattle.loops.proofs.ruling.rows_of.Given as goal

abbrev pub invariant-loop-a : goal.invariant-loop-a
invariant-loop-a l = ((b : ℕ) → b < l.a → get_or l.rows b 0 ≡ row_for l.u (get_or l.tags (b / 4) 0) (b % 4 + 1)) × (length l.rows ≡ 32)
