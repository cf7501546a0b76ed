-- What the private functions ask and find, from the words of a function's columns. No public contract cites this file.
use Rattle.std.specs.Prelude.{ℕ, ◌+◌, ◌-◌, ◌*◌, ◌%◌, ◌^◌, ◌≤◌, ◌<◌, ◌≡◌, Bool, true, cond, not, ◌&&◌, List, leb, ltb, eqb, length, get_or, Ok, Err}
use Rattle.words.specs.Bits.{is_set}
use Rattle.words.specs.Below.{some_below, count_below, least_from}
use Rattle.unit.specs.declared.FunctionUnit.{FunctionUnit}
use Rattle.unit.specs.declared.Outcome.{Outcome}
use Rattle.unit.specs.declared.Refusal.{Refusal}
use Rattle.unit.specs.declared.Refusal.TheVariants.{PlaceBeyond}
use Rattle.unit.specs.Unit.{inside, sound_of}
use Rattle.unit.specs.Calls.{check, unit_of, outcome}
use Rattle.collision.specs.Vector.{meet}
use Rattle.delays.specs.Delays.{Marks, place_of, places, width_of, moved_table}

-- the marks that the words say
unfoldable pub column_marks : List ℕ → Marks
column_marks columns s c = inside s 16 && (inside c 32 && is_set (get_or columns (c - 1) 0) (s - 1))

-- a word has two marks
abbrev pub two_in : ℕ → Bool
two_in w = ltb 1 (count_below 32 (is_set w))

-- the place p of the column after the first n is taken
unfoldable pub taken_at : List ℕ → List ℕ → ℕ → ℕ → ℕ → Bool
taken_at columns spots n m p = some_below n (λ i. meet (get_or columns i 0) (get_or columns n 0) && eqb (get_or spots i 0 % m) (p % m))

-- the first place that it can have
unfoldable pub first_for : List ℕ → ℕ → ℕ
first_for spots n = cond (eqb n 0) 1 (get_or spots (n - 1) 0 + 1)

unfoldable pub place_for : List ℕ → List ℕ → ℕ → ℕ → ℕ
place_for columns spots n m = least_from m (first_for spots n) (λ p. not (taken_at columns spots n m p))

-- a column's place can be sought
pub record Placing (spots : List ℕ) (n m : ℕ) : Type 0 where
  pub inside : n < 32
  pub least : 1 ≤ m
  pub most : m ≤ 32
  pub low : first_for spots n ≤ 33 * n + 1

-- the first n places
pub record Placed (R : Marks) (m n : ℕ) (spots : List ℕ) : Type 0 where
  pub size : length spots ≡ 32
  pub each : (i : ℕ) → i < n → get_or spots i 0 ≡ place_of (places R m n) (i + 1)

-- the marks of the first n columns can be moved into a unit of these segments and this width
pub record Movable (columns spots : List ℕ) (m n segments width : ℕ) : Type 0 where
  pub segment1 : 1 ≤ segments
  pub segment16 : segments ≤ 16
  pub width1 : 1 ≤ width
  pub width32 : width ≤ 32
  pub few : n ≤ 32
  pub placed : Placed (column_marks columns) m n spots
  pub within : (i : ℕ) → i < n → get_or spots i 0 ≤ width
  pub small : (i : ℕ) → i < 32 → get_or columns i 0 < 2 ^ segments

-- a refused call
abbrev pub left : FunctionUnit → Refusal → Outcome
left u why = record { answer = Err why; unit = u }

-- the columns of a sound unit's function, and a latency of 1 to 32
pub record Suited (u : FunctionUnit) (columns : List ℕ) (m : ℕ) : Type 0 where
  pub sound : sound_of u ≡ true
  pub least : 1 ≤ m
  pub most : m ≤ 32
  pub small : (i : ℕ) → i < 32 → get_or columns i 0 < 2 ^ u.segments

-- what is left once they are placed
unfoldable pub placed_of : FunctionUnit → List ℕ → ℕ → Outcome
placed_of u columns m =
    outcome (check (leb (width_of (column_marks columns) m u.columns) 32) PlaceBeyond (Ok tt)) u
    (unit_of 1 u.segments (width_of (column_marks columns) m u.columns) (moved_table (column_marks columns) (places (column_marks columns) m u.columns)))
