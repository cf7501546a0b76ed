-- What is claimed of totals: they do not depend on which best cycles are found, the call answers one thing, and it is refused as a search is.
use Rattle.std.specs.Prelude.{ℕ, ◌*◌, ◌<◌, ◌≡◌, true, List, Result}
use Rattle.unit.specs.Table.{Table}
use Rattle.planner.specs.Plans.{search_answer}
use Rattle.table_numbers.specs.Tables.{small_size, table_count, small_table_of}
use Rattle.table_totals.specs.declared.SizeTotals.{SizeTotals}
use Rattle.table_totals.specs.Totals.{Lowest, BestCycles, TotalsBy, TotalsOver, totals_answer, AnswersTotals}
use Rattle.unit.specs.declared.Refusal.{Refusal}

-- a list of tables has one set of totals
abbrev pub OneTotals : Type 0
OneTotals = (list : List Table) (t u : SizeTotals) → TotalsOver list t → TotalsOver list u → t ≡ u

-- they are its totals by whichever best cycles
abbrev pub ByAny : Type 0
ByAny = (list : List Table) (t : SizeTotals) → TotalsOver list t → (best : ℕ → List ℕ) → BestCycles list best → TotalsBy list best t

-- two calls for a size that are not refused differently answer the same
abbrev pub OneAnswer : Type 0
OneAnswer = (s c room room' : ℕ) (a b : (Result SizeTotals Refusal)) → totals_answer s c room ≡ totals_answer s c room' → AnswersTotals s c room a → AnswersTotals s c room' b → a ≡ b

-- after 22 the call is refused where a search of each of its tables is: by 5, and never by 7
abbrev pub AsSearch : Type 0
AsSearch = (s c n room : ℕ) → small_size s c ≡ true → n < table_count s c → search_answer (small_table_of s c n).unit 1 room ≡ totals_answer s c room

-- a fraction in lowest terms has no common divisor but 1
abbrev pub Coprime : Type 0
Coprime = (p q d x y : ℕ) → Lowest p q → d * x ≡ p → d * y ≡ q → d ≡ 1
