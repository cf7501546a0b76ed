-- What the unit with delays is for: its marks are the old ones moved in order by the rule, and the wanted latency never collides in it. Proved in
-- proofs/Claims.antt.
use Rattle.std.specs.Prelude.{ℕ, ◌-◌, ◌%◌, ◌≤◌, ◌<◌, ◌≡◌, true, false, ◌↔◌, List, [], ◌∷◌, length, Ok}
use Rattle.unit.specs.declared.FunctionUnit.{FunctionUnit}
use Rattle.unit.specs.Unit.{marked, sound_of}
use Rattle.unit.specs.Calls.{no_plan}
use Rattle.collision.specs.Pipeline.{NeverCollides}
use Rattle.collision.specs.Vector.{marks_of}
use Rattle.delays.specs.Delays.{Marks, place_of, width_of, crowded, delays_answer, delays_of}

-- The rule

-- an earlier mark of a segment that column c is marked in has the remainder of the place p modulo m; no place of an unmarked column is barred
pub record Barred (R : Marks) (m : ℕ) (places : List ℕ) (c p : ℕ) : Type 0 where
  pub segment : ℕ
  pub earlier : ℕ
  pub least : 1 ≤ earlier
  pub order : earlier < c
  pub mark : R segment c ≡ true
  pub other : R segment earlier ≡ true
  pub remainder : place_of places earlier % m ≡ p % m

-- the columns 1 to n are placed in order, each after its predecessor, at the first place that is not barred
pub record ByRule (R : Marks) (m n : ℕ) (places : List ℕ) : Type 0 where
  pub count : length places ≡ n
  pub after : (c : ℕ) → 1 ≤ c → c ≤ n → place_of places (c - 1) < place_of places c
  pub allowed : (c : ℕ) → 1 ≤ c → c ≤ n → Barred R m places c (place_of places c) → ⊥
  pub first : (c p : ℕ) → 1 ≤ c → c ≤ n → place_of places (c - 1) < p → p < place_of places c → Barred R m places c p

-- no two lists of places are by the rule
abbrev pub OneWay : Type 0
OneWay = (R : Marks) (m n : ℕ) (l k : List ℕ) → ByRule R m n l → ByRule R m n k → l ≡ k

-- The unit

-- a mark at the place z is the old one of a column whose place is z
pub record From (u : FunctionUnit) (q : ℕ) (places : List ℕ) (s z : ℕ) : Type 0 where
  pub column : ℕ
  pub least : 1 ≤ column
  pub most : column ≤ u.columns
  pub place : place_of places column ≡ z
  pub mark : marked u q s column ≡ true

-- v is the unit of q with delay columns for m
pub record Delayed (u : FunctionUnit) (q m : ℕ) (v : FunctionUnit) : Type 0 where
  pub sound : sound_of v ≡ true
  pub functions : v.functions ≡ 1
  pub segments : v.segments ≡ u.segments
  pub plan : v.plan ≡ no_plan
  pub places : List ℕ
  pub rule : ByRule (marked u q) m u.columns places
  pub width : v.columns ≡ place_of places u.columns
  pub marks : (s c : ℕ) → 1 ≤ c → c ≤ u.columns → marked v 1 s (place_of places c) ≡ marked u q s c
  pub only : (s z : ℕ) → marked v 1 s z ≡ true → From u q places s z
  pub never : NeverCollides (marked v) 1 (m ∷ [])

-- what an accepted call makes
abbrev pub DelaysPermit : Type 0
DelaysPermit = (u : FunctionUnit) (q m : ℕ) → delays_answer u q m ≡ Ok tt → Delayed u q m (delays_of u q m).unit

-- that says all of it: no two units with delays differ in their counts or marks
pub record Alike (v w : FunctionUnit) : Type 0 where
  pub functions : v.functions ≡ w.functions
  pub segments : v.segments ≡ w.segments
  pub columns : v.columns ≡ w.columns
  pub marks : marked v ≡ marked w

abbrev pub OneUnit : Type 0
OneUnit = (u v w : FunctionUnit) (q m : ℕ) → Delayed u q m v → Delayed u q m w → Alike v w

-- The refusals

-- 19 is for a column in which two segments are marked
pub record TwoIn (R : Marks) : Type 0 where
  pub column : ℕ
  pub segment : ℕ
  pub other : ℕ
  pub order : other < segment
  pub mark : R segment column ≡ true
  pub second : R other column ≡ true

abbrev pub CrowdedExactly : Type 0
CrowdedExactly = (u : FunctionUnit) (q : ℕ) → (crowded (marked u q) ≡ true) ↔ TwoIn (marked u q)

-- 21 is for a place beyond 32 of any column, marked or not, where the columns are placed by the rule
pub record Beyond (R : Marks) (m n : ℕ) : Type 0 where
  pub places : List ℕ
  pub rule : ByRule R m n places
  pub column : ℕ
  pub most : column ≤ n
  pub place : 32 < place_of places column

abbrev pub BeyondExactly : Type 0
BeyondExactly =
    (u : FunctionUnit) (q m : ℕ) → crowded (marked u q) ≡ false → marks_of (marked u) q ≤ m
    → (32 < width_of (marked u q) m u.columns) ↔ Beyond (marked u q) m u.columns
