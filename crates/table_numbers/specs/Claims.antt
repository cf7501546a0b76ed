-- What is claimed of small tables: the list of a size has every table of it, each once, by rising number, and the call makes each of them.
use Rattle.std.specs.Prelude.{ℕ, ◌+◌, ◌-◌, ◌*◌, ◌<◌, ◌≡◌, true, length, Ok}
use Rattle.words.specs.Bits.{is_set}
use Rattle.unit.specs.declared.Outcome.{Outcome}
use Rattle.unit.specs.Table.{Table}
use Rattle.unit.specs.Unit.{inside, sound_of, marked}
use Rattle.unit.specs.Calls.{no_plan}
use Rattle.table_numbers.specs.Tables.{small_size, table_count, number_of_table, all_tables, nth_table, small_table_of}

-- column k of segment r of the function q is one of one function, s segments and c columns
pub record OfSize (s c q r k : ℕ) : Type 0 where
  pub tag : q ≡ 1
  pub segment : inside r s ≡ true
  pub column : inside k c ≡ true

-- a one-function table of s segments and c columns: every mark is one of these
abbrev pub HasSize : ℕ → ℕ → Table → Type 0
HasSize s c T = (q r k : ℕ) → T q r k ≡ true → OfSize s c q r k

-- a table stands at a place of the list
pub record StandsAt (s c : ℕ) (T : Table) (n : ℕ) : Type 0 where
  pub inside : n < length (all_tables s c)
  pub here : nth_table (all_tables s c) n ≡ T

-- the list of all tables of a size
pub record AllTables (s c : ℕ) : Type 0 where
  pub count : length (all_tables s c) ≡ table_count s c
  -- they are tables of the size
  pub size : (T : Table) (n : ℕ) → StandsAt s c T n → HasSize s c T
  -- a number has 2 to the power (r - 1) × columns + k - 1 exactly where column k of segment r is marked
  pub adds : (T : Table) (r k : ℕ) → inside r s ≡ true → inside k c ≡ true → is_set (number_of_table s c T) ((r - 1) * c + (k - 1)) ≡ T 1 r k
  -- by rising number: at place n stands the table of number n
  pub rising : (T : Table) (n : ℕ) → StandsAt s c T n → number_of_table s c T ≡ n
  -- every one
  pub every : (T : Table) → HasSize s c T → StandsAt s c T (number_of_table s c T)
  -- each once
  pub once : (T : Table) (m n : ℕ) → StandsAt s c T m → StandsAt s c T n → m ≡ n

abbrev pub EachOnce : Type 0
EachOnce = (s c : ℕ) → small_size s c ≡ true → AllTables s c

-- what the call makes: a sound unit of one function and that size, without plan, whose marks are the table's
pub record Makes (s c : ℕ) (T : Table) (made : Outcome) : Type 0 where
  pub answer : made.answer ≡ Ok tt
  pub sound : sound_of made.unit ≡ true
  pub functions : made.unit.functions ≡ 1
  pub segments : made.unit.segments ≡ s
  pub columns : made.unit.columns ≡ c
  pub marks : marked made.unit ≡ T
  pub plan : made.unit.plan ≡ no_plan

-- the call makes each table of the list by its number
abbrev pub EachMade : Type 0
EachMade = (s c : ℕ) → small_size s c ≡ true → (T : Table) (n : ℕ) → StandsAt s c T n → Makes s c T (small_table_of s c n)
