-- What the private functions ask and find. No public contract cites this file.
use Rattle.std.specs.Prelude.{◌≡◌, ◌↔◌, ℕ, ◌/◌, ◌%◌, ◌^◌, ◌≤◌, ◌<◌, List, Bool, true, false, get_or}

-- a place from one on and before another
pub record Between (from to k : ℕ) : Type 0 where
  pub least : from ≤ k
  pub most : k < to

-- a word of one of the four functions whose column, counted from 0, is from one on and before another
pub record Beyond (from to k : ℕ) : Type 0 where
  pub inside : k < 128
  pub least : from ≤ k % 32
  pub most : k % 32 < to

-- r has all the bits of the words at these places: it has none from s on exactly where no such word has
abbrev pub Joins : (ℕ → Type 0) → List ℕ → ℕ → Type 0
Joins P words r = (s : ℕ) → (r < 2 ^ s) ↔ ((k : ℕ) → P k → get_or words k 0 < 2 ^ s)

-- a word other than 0 is of a function and of a column within the counts, and so are the segments of its bits
pub record Clear (f s c k w : ℕ) : Type 0 where
  pub tag : k / 32 < f
  pub column : k % 32 < c
  pub small : w < 2 ^ s

abbrev pub Clean : ℕ → ℕ → ℕ → List ℕ → Type 0
Clean f s c words = (k : ℕ) → k < 128 → (get_or words k 0 ≡ 0 → ⊥) → Clear f s c k (get_or words k 0)

-- the words, of 16 bits each, were tested
pub record Tested (f s c : ℕ) (words : List ℕ) (r : Bool) : Type 0 where
  pub small : (k : ℕ) → k < 128 → get_or words k 0 < 2 ^ 16
  pub passed : r ≡ true → Clean f s c words
  pub failed : r ≡ false → Clean f s c words → ⊥

-- a tag and a column that some unit has
pub record Somewhere (q c : ℕ) : Type 0 where
  pub tag1 : 1 ≤ q
  pub tag4 : q ≤ 4
  pub column1 : 1 ≤ c
  pub column32 : c ≤ 32
