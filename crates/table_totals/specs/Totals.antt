-- Totals over every small table of a size, with the best cycle of each: how many are at the bound, the largest average, and the first number that has it.
use Rattle.std.specs.Prelude.{ℕ, ◌*◌, ◌≤◌, ◌<◌, ◌≡◌, Bool, List, leb, eqb, length, Result, Ok, Err}
use Rattle.words.specs.Below.{count_below}
use Rattle.unit.specs.declared.Refusal.{Refusal}
use Rattle.unit.specs.declared.Refusal.TheVariants.{NoSmallTable, ShortWork}
use Rattle.unit.specs.Answers.{Answer}
use Rattle.unit.specs.Table.{Table}
use Rattle.unit.specs.Calls.{check}
use Rattle.collision.specs.Pipeline.{total}
use Rattle.collision.specs.Vector.{bound_of}
use Rattle.cycles.specs.Greedy.{WorkAfter}
use Rattle.planner.specs.Plans.{Best}
use Rattle.table_numbers.specs.Tables.{small_size, all_tables, nth_table}
use Rattle.table_totals.specs.declared.SizeTotals.{SizeTotals}

-- Fractions

-- p / q is in lowest terms: no fraction a / b of the same value has a smaller denominator (and so p and q have no common divisor but 1: `Coprime`,
-- crate total_claims)
pub record Lowest (p q : ℕ) : Type 0 where
  pub positive : 1 ≤ q
  pub least : (a b : ℕ) → 1 ≤ b → a * q ≡ p * b → q ≤ b

-- The totals of a list of tables of one function

-- a best cycle of each table of the list, with least interval 1. Free is which of several (`SameAverage`, crate planner); the totals are not
-- (`OneTotals`, crate total_claims).
abbrev pub BestCycles : List Table → (ℕ → List ℕ) → Type 0
BestCycles list best = (n : ℕ) → n < length list → Best 1 (nth_table list n) 1 (best n)

-- S = bound × K
abbrev pub at_bound : Table → List ℕ → Bool
at_bound T cycle = eqb (total cycle) (bound_of T 1 * length cycle)

-- by these cycles: how many tables there are; how many reach S = bound × K; the largest average S / K, as a fraction in lowest terms; and the first
-- number that has it
pub record TotalsBy (list : List Table) (best : ℕ → List ℕ) (t : SizeTotals) : Type 0 where
  pub tables : t.tables ≡ length list
  pub reaching : t.reaching ≡ count_below (length list) (λ n. at_bound (nth_table list n) (best n))
  pub largest : (n : ℕ) → n < length list → total (best n) * t.denominator ≤ t.numerator * length (best n)
  pub lowest : Lowest t.numerator t.denominator
  pub first : t.first < length list
  pub reached : total (best t.first) * t.denominator ≡ t.numerator * length (best t.first)
  pub earlier : (n : ℕ) → n < t.first → total (best n) * t.denominator < t.numerator * length (best n)

pub record TotalsOver (list : List Table) (t : SizeTotals) : Type 0 where
  pub best : ℕ → List ℕ
  pub bests : BestCycles list best
  pub by : TotalsBy list best t

-- the totals of a size are those of the list of all its tables
abbrev pub TotalsOf : ℕ → ℕ → SizeTotals → Type 0
TotalsOf s c t = TotalsOver (all_tables s c) t

-- The call, with so many working words

-- 22: a size outside the small ones; then 5 as a search has it
unfoldable pub totals_answer : ℕ → ℕ → ℕ → Answer
totals_answer s c room = check (small_size s c) NoSmallTable (check (leb 16000 room) ShortWork (Ok tt))

-- the totals of the size
pub record ToldTotals (s c : ℕ) (answer : (Result SizeTotals Refusal)) : Type 0 where
  pub totals : SizeTotals
  pub of_size : TotalsOf s c totals
  pub told : answer ≡ Ok totals

-- what is answered with so many working words (it is one thing: `OneAnswer`, crate total_claims)
pub record AnswersTotals (s c room : ℕ) (answer : (Result SizeTotals Refusal)) : Type 0 where
  pub refused : (why : Refusal) → totals_answer s c room ≡ Err why → answer ≡ Err why
  pub found : totals_answer s c room ≡ Ok tt → ToldTotals s c answer

-- Free are the first 2,048 working words, unless the call is refused (`WorkAfter`).
pub record TotalsPromise (s c : ℕ) (before words : List ℕ) (answer : (Result SizeTotals Refusal)) : Type 0 where
  pub answers : AnswersTotals s c (length before) answer
  pub work : WorkAfter (totals_answer s c (length before)) before words
