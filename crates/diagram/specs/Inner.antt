-- What the private functions that list the states do to the working words; no public contract cites this file.
use Rattle.std.specs.Prelude.{◌≡◌, cond, List, ℕ, ◌-◌, ◌^◌, ◌≤◌, ◌<◌, length, get_or, take}
use Rattle.words.specs.Bits.{is_set}
use Rattle.diagram.specs.Diagram.{next}
use Rattle.diagram.specs.States.{add}
use Rattle.diagram.specs.Work.{state_in, head_in, Indexed}

-- only the first 768 words may have changed
pub record Confined (before after : List ℕ) : Type 0 where
  pub size : length after ≡ length before
  pub beyond : (i : ℕ) → 768 ≤ i → get_or after i 0 ≡ get_or before i 0

-- every bucket is empty
pub record Cleared (before after : List ℕ) : Type 0 where
  pub confined : Confined before after
  pub empty : (b : ℕ) → b < 256 → head_in after b ≡ 0

-- the words hold the list of k states, with its index
pub record Held (w : List ℕ) (k : ℕ) (l : List ℕ) : Type 0 where
  pub listed : take k w ≡ l
  pub index : Indexed w k

-- the words came to hold the list of r states; or r and the list are above 256
pub record Grown (before after l : List ℕ) (r : ℕ) : Type 0 where
  pub confined : Confined before after
  pub held : r ≤ 256 → Held after r l
  pub over : 256 < r → 256 < length l

-- the list after the latency t of the state s, whose column t says whether there is an arc
abbrev pub visited : ℕ → ℕ → ℕ → List ℕ → List ℕ
visited cv s t l = cond (is_set s (t - 1)) l (add (next cv s t) l)

-- the state at a place can be expanded: it has no more bits than the vector has columns
pub record Ready (w : List ℕ) (k n at : ℕ) : Type 0 where
  pub index : Indexed w k
  pub inside : at < k
  pub narrow : n ≤ 32
  pub small : state_in w at < 2 ^ n
