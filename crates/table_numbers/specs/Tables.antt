-- Sized tables, of one function, 1 or 2 segments and 1 to 6 columns, each with a number; and the calls that count them and make the table of a number.
use Rattle.std.specs.Prelude.{ℕ, ◌+◌, ◌-◌, ◌*◌, ◌/◌, ◌%◌, ◌^◌, Bool, cond, ◌&&◌, List, map, ltb, eqb, get_or, Ok}
use Rattle.words.specs.Bits.{is_set}
use Rattle.words.specs.Below.{word_below, list_below}
use Rattle.unit.specs.declared.Outcome.{Outcome}
use Rattle.unit.specs.declared.Refusal.TheVariants.{NoSmallTable}
use Rattle.unit.specs.Answers.{Answer}
use Rattle.unit.specs.Table.{Table, empty}
use Rattle.unit.specs.Unit.{inside}
use Rattle.unit.specs.Calls.{check, outcome, blank, unit_of}

-- The sizes

-- 1 or 2 segments, 1 to 6 columns
abbrev pub small_size : ℕ → ℕ → Bool
small_size s c = inside s 2 && inside c 6

-- how many tables of s segments and c columns there are; their numbers are those below it
abbrev pub table_count : ℕ → ℕ → ℕ
table_count s c = 2 ^ (s * c)

-- Numbers and tables

-- the number of a table: a mark in column k of segment r adds 2 to the power (r - 1) × columns + k - 1. That is a place, counted from 0 segment by
-- segment: place i is column i mod columns + 1 of segment i / columns + 1.
unfoldable pub number_of_table : ℕ → ℕ → Table → ℕ
number_of_table s c T = word_below (s * c) (λ i. T 1 (i / c + 1) (i % c + 1))

-- the table of a number: column k of segment r is marked where the number has 2 to that power
unfoldable pub small_table : ℕ → ℕ → ℕ → Table
small_table s c n q r k = eqb q 1 && (inside r s && (inside k c && is_set n ((r - 1) * c + (k - 1))))

-- the list of all tables of a size, by rising number (every one of them, each once: `EachOnce`, specs/Claims.antt)
unfoldable pub all_tables : ℕ → ℕ → List Table
all_tables s c = map (small_table s c) (list_below (table_count s c) (λ n. n))

-- the table at a place of a list, the first at place 0
abbrev pub nth_table : List Table → ℕ → Table
nth_table tables n = get_or tables n empty

-- The calls

-- how many tables a size has; none outside those above
abbrev pub count_answer : ℕ → ℕ → ℕ
count_answer s c = cond (small_size s c) (table_count s c) 0

-- 22: a size outside these, or a number that no table has
unfoldable pub small_table_answer : ℕ → ℕ → ℕ → Answer
small_table_answer s c n = check (small_size s c && ltb n (table_count s c)) NoSmallTable (Ok tt)

-- the unit of one function with the marks of the table, and without plan; where the call is refused the unit of no counts, which every call refuses
unfoldable pub small_table_of : ℕ → ℕ → ℕ → Outcome
small_table_of s c n = outcome (small_table_answer s c n) (blank 0 0 0) (unit_of 1 s c (small_table s c n))
