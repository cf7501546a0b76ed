-- What the private functions find, from the columns of two functions. No public contract cites this file.
use Rattle.std.specs.Prelude.{◌≡◌, Bool, not, List, ℕ, ◌+◌, ◌^◌, ◌<◌, eqb, length, get_or}
use Rattle.std.specs.Int.Bits.{bit_and, bit_or}
use Rattle.collision.specs.Vector.{shared}

-- two lists have the same words, an index beyond either having 0
abbrev pub SameWords : List ℕ → List ℕ → Type 0
SameWords a b = (k : ℕ) → get_or b k 0 ≡ get_or a k 0

-- word t with what a column's word shares with the earlier function's column that is t further on
abbrev pub with_common : List ℕ → ℕ → ℕ → List ℕ → ℕ → ℕ
with_common earlier column word before t = bit_or (get_or before t 0) (bit_and word (get_or earlier (column + t) 0))

-- each word has got it
pub record Joins (earlier : List ℕ) (column word : ℕ) (before after : List ℕ) : Type 0 where
  pub small : word < 2 ^ 16
  pub long : length after ≡ 32
  pub each : (t : ℕ) → t < 32 → get_or after t 0 ≡ with_common earlier column word before t

-- word t is other than 0
abbrev pub nonzero : List ℕ → ℕ → Bool
nonzero words t = not (eqb (get_or words t 0) 0)

-- it is so exactly where two functions share a segment t columns apart
abbrev pub Common : List ℕ → List ℕ → List ℕ → Type 0
Common later earlier common = (t : ℕ) → t < 32 → nonzero common t ≡ shared later earlier t
