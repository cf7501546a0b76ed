-- `words::shift` meets its contract: a quotient of a 32-bit word fits 32 bits. Assumes nothing.
use native.Mathlib.Nat.{lt_of_le_of_lt}
use borrow.Author.Rules.{rules}
use lib.Pow.{shr_le}
use Rattle.words.proofs.shift.Goals as goal

pub overflow_cast-result-3 : goal.overflow_cast-result-3
overflow_cast-result-3 c = record { fits = lt_of_le_of_lt (shr_le _ _) (search rules) }
