-- The bits of a word. Bit 0 is the lowest.
use Rattle.std.specs.Prelude.{Bool, cond, not, ℕ, ◌-◌, ◌/◌, ◌%◌, ◌^◌, ltb, eqb}
use Rattle.std.specs.Int.Bits.{bit_and, bit_or, bit_xor}
use Rattle.words.specs.Below.{least_from}

-- bit k of a word: 0 or 1
abbrev pub bit : ℕ → ℕ → ℕ
bit w k = w / 2 ^ k % 2

-- bit k of a word is 1
abbrev pub is_set : ℕ → ℕ → Bool
is_set w k = eqb (bit w k) 1

-- a 32-bit word with bit k made 1, or made 0; it has no bit from 32 on, and stays
unfoldable pub set_bit : ℕ → ℕ → ℕ
set_bit w k = cond (ltb k 32) (bit_or w (2 ^ k)) w

unfoldable pub clear_bit : ℕ → ℕ → ℕ
clear_bit w k = cond (ltb k 32) (bit_xor w (bit_and w (2 ^ k))) w

-- the least index from k on at which a word of 32 bits has a 0: 32 where all of them are 1, and k itself where it is 32 or more
unfoldable pub zero_from : ℕ → ℕ → ℕ
zero_from w k = least_from (32 - k) k (λ i. not (is_set w i))
