-- Delay columns for a wanted constant latency m: where each column goes, what the call answers, and the unit that it makes.
use Rattle.std.specs.Prelude.{ℕ, zero, suc, ◌+◌, ◌%◌, Bool, not, ◌&&◌, List, [], ◌∷◌, ◌++◌, leb, eqb, length, get_or, Ok}
use Rattle.words.specs.Below.{some_below, least_from}
use Rattle.unit.specs.declared.FunctionUnit.{FunctionUnit}
use Rattle.unit.specs.declared.Outcome.{Outcome}
use Rattle.unit.specs.declared.Refusal.TheVariants.{TwoMarks, BadInterval, PlaceBeyond}
use Rattle.unit.specs.Answers.{Answer}
use Rattle.unit.specs.Table.{Table}
use Rattle.unit.specs.Unit.{inside, marked}
use Rattle.unit.specs.Calls.{check, and_then, tag_answer, unit_of, outcome}
use Rattle.collision.specs.Vector.{marks_of}

-- Where the columns go

-- the marks of one function: `R s c` says that it occupies segment s in column c
abbrev pub Marks : Type 0
Marks = ℕ → ℕ → Bool

-- The places of the columns stand in a list, that of column 1 first.

-- the place of column c; 0 before the first column
abbrev pub place_of : List ℕ → ℕ → ℕ
place_of places c = get_or (0 ∷ places) c 0

-- the place of the last column, or 0
abbrev pub last_of : List ℕ → ℕ
last_of places = place_of places (length places)

-- two columns have a mark in one segment
unfoldable pub sharing : Marks → ℕ → ℕ → Bool
sharing R c d = some_below 17 (λ s. R s c && R s d)

-- the next column is column n + 1 where n are placed: an earlier mark of its segment has the remainder of the place p modulo m
unfoldable pub taken : Marks → ℕ → List ℕ → ℕ → Bool
taken R m earlier p =
    some_below (length earlier) (λ i. sharing R (i + 1) (length earlier + 1) && eqb (place_of earlier (i + 1) % m) (p % m))

-- the first place after the predecessor's; a marked column moves on to the first whose remainder no earlier mark of its segment has, which is one of m
unfoldable pub next_place : Marks → ℕ → List ℕ → ℕ
next_place R m earlier = least_from m (last_of earlier + 1) (λ p. not (taken R m earlier p))

-- the places of the columns 1 to n, in order
unfoldable pub places : Marks → ℕ → ℕ → List ℕ
places R m zero = []
places R m (suc n) = let earlier : List ℕ = places R m n in earlier ++ (next_place R m earlier ∷ [])

-- the width reached: the place of the last column, marked or not
abbrev pub width_of : Marks → ℕ → ℕ → ℕ
width_of R m n = last_of (places R m n)

-- function 1 has the marks, each moved to the place of its column
unfoldable pub moved_table : Marks → List ℕ → Table
moved_table R places x s z = eqb x 1 && some_below (length places) (λ i. eqb (place_of places (i + 1)) z && R s (i + 1))

-- The call

-- two marks in a column
unfoldable pub crowded : Marks → Bool
crowded R = some_below 33 (λ c. some_below 17 (λ s. some_below s (λ r. R r c && R s c)))

-- 1, 2; 19 two marks in a column; 20 m is 0, above 32 or below the largest number of marks in a segment; 21 a place beyond 32
unfoldable pub delays_answer : FunctionUnit → ℕ → ℕ → Answer
delays_answer u q m =
    and_then (tag_answer u q)
    (check (not (crowded (marked u q))) TwoMarks
    (check (inside m 32 && leb (marks_of (marked u) q) m) BadInterval
    (check (leb (width_of (marked u q) m u.columns) 32) PlaceBeyond (Ok tt))))

-- a one-function unit of the width reached, with the unit's segments and without plan
abbrev pub delayed_unit : FunctionUnit → ℕ → ℕ → FunctionUnit
delayed_unit u q m =
    unit_of 1 u.segments (width_of (marked u q) m u.columns) (moved_table (marked u q) (places (marked u q) m u.columns))

-- a refused call hands the unit back
unfoldable pub delays_of : FunctionUnit → ℕ → ℕ → Outcome
delays_of u q m = outcome (delays_answer u q m) u (delayed_unit u q m)
