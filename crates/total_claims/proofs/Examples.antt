-- What is not so: wrong totals, wrong answers, tables that are none of a size, and the claims beyond their conditions. Assumes nothing.
use Rattle.std.proofs.Common.{Result, Ok, Err}
use Prim.Native.Nat.{ℕ, zero, suc, ◌*◌, ◌%◌, ◌≤◌}
use mathlib.Core.Path.{◌≡◌, refl, sym, ap, ◌∙◌}
use mathlib.Core.Bool.{◌&&◌}
use mathlib.Core.List.{List, [], ◌∷◌}
use native.Mathlib.Nat.{mul-mod_left}
use native.Mathlib.Omega.{arith}
use lib.Dec.{eqb}
use Rattle.unit.specs.declared.Refusal.TheVariants.{NoSmallTable, ShortWork}
use Rattle.unit.specs.Table.{Table}
use Rattle.unit.specs.Numbers.{number_in}
use Rattle.unit.specs.Unit.{sound_of}
use Rattle.unit.specs.Calls.{tag_answer}
use Rattle.unit.proofs.Laws.{never_done}
use Rattle.planner.specs.Plans.{Best, search_answer}
use Rattle.planner.proofs.BestLaws.{same_average}
use Rattle.table_numbers.specs.Tables.{small_table, all_tables, small_table_answer, small_table_of}
use Rattle.table_numbers.specs.Claims.{StandsAt, Makes}
use Rattle.table_numbers.proofs.Claims.{number_place, each_once}
use Rattle.table_totals.specs.declared.SizeTotals.{SizeTotals}
use Rattle.table_totals.specs.Totals.{Lowest, TotalsBy, TotalsOf, totals_answer, AnswersTotals, TotalsPromise}
use Rattle.total_claims.specs.Examples.{totalling}
use Rattle.total_claims.proofs.SizeLaws.{sized11, vector11, best_one, one_column, two_columns}
use Rattle.unit.specs.declared.Refusal.{Refusal}

-- Totals of one column that are none

-- with the largest number of marks in one segment for the bound: 0 for the table without marks, which then is not at it
pub not_by_marks : TotalsOf 1 1 (totalling 2 1 1 1 0) → ⊥
not_by_marks x = omega (arith, ap (λ (t : SizeTotals). t.reaching) (one_column.only _ x))

-- the last number that has the largest average
pub not_the_last : TotalsOf 1 1 (totalling 2 2 1 1 1) → ⊥
not_the_last x = omega (arith, ap (λ (t : SizeTotals). t.first) (one_column.only _ x))

-- Totals of two columns that are none

-- the last table left out
pub not_without_3 : TotalsOf 1 2 (totalling 3 3 1 1 0) → ⊥
not_without_3 x = omega (arith, ap (λ (t : SizeTotals). t.tables) (two_columns.only _ x))

-- one of them not at the bound
pub not_three : TotalsOf 1 2 (totalling 4 3 2 1 3) → ⊥
not_three x = omega (arith, ap (λ (t : SizeTotals). t.reaching) (two_columns.only _ x))

-- a fraction that is not in lowest terms
pub not_lowest : TotalsOf 1 2 (totalling 4 4 4 2 3) → ⊥
not_lowest x = omega (arith, ap (λ (t : SizeTotals). t.numerator) (two_columns.only _ x))

pub not_reduced : Lowest 4 2 → ⊥
not_reduced l = omega (arith, l.least 2 1 (omega arith) refl)

pub seven_halves : Lowest 7 2
seven_halves = record { positive = omega arith; least = least }
  where
    least : (a b : ℕ) → 1 ≤ b → a * 2 ≡ 7 * b → 2 ≤ b
    least a zero h e = absurd (omega arith)
    least a (suc zero) h e = let z : ◌≡◌ {A = ℕ} 0 1 = sym (mul-mod_left a 2) ∙ ap (λ x. x % 2) e in absurd (omega arith)
    least a (suc (suc b)) h e = omega arith

-- the smallest average
pub not_smallest : TotalsOf 1 2 (totalling 4 4 1 1 0) → ⊥
not_smallest x = omega (arith, ap (λ (t : SizeTotals). t.numerator) (two_columns.only _ x))

-- more than the largest
pub not_more : TotalsOf 1 2 (totalling 4 4 3 1 3) → ⊥
not_more x = omega (arith, ap (λ (t : SizeTotals). t.numerator) (two_columns.only _ x))

-- a number with another average
pub not_2 : TotalsOf 1 2 (totalling 4 4 2 1 2) → ⊥
not_2 x = omega (arith, ap (λ (t : SizeTotals). t.first) (two_columns.only _ x))

-- Cycles that are not best

-- (2) never collides where nothing is forbidden, and has another average than (1): it is not best
pub not_best : Best 1 (small_table 1 1 0) 1 (2 ∷ []) → ⊥
not_best b = omega (arith, same_average 1 (small_table 1 1 0) 1 (2 ∷ []) (1 ∷ []) b (best_one sized11 0 (vector11 0 (omega arith))))

-- and it gives no totals
pub not_by_2 : TotalsBy (all_tables 1 1) (λ n. 2 ∷ []) (totalling 2 2 1 1 0) → ⊥
not_by_2 x = omega (arith, x.reached)

-- Tables that are none of the size

-- one column has the numbers 0 and 1
pub no_number_2 : (T : Table) → StandsAt 1 1 T 2 → ⊥
no_number_2 T l = omega (arith, l.inside, (each_once 1 1 refl).count)

-- a mark of function 2
pub no_function_2 : (n : ℕ) → StandsAt 1 1 (λ q r k. eqb q 2 && (eqb r 1 && eqb k 1)) n → ⊥
no_function_2 n l = omega (arith, ((each_once 1 1 refl).size _ n l 2 1 1 refl).tag)

-- the table of number 1 of one column stands at no other place
pub not_at_0 : StandsAt 1 1 (small_table 1 1 1) 0 → ⊥
not_at_0 l = omega (arith, (each_once 1 1 refl).once _ 0 1 l (number_place (record { below = omega arith; table = refl })))

-- the call makes none of them
pub not_made : (T : Table) → Makes 1 1 T (small_table_of 1 1 2) → ⊥
unfolding small_table_of small_table_answer
not_made T m = omega (arith, ap number_in m.answer)

-- Answers

-- what one column is answered, with words enough and with none
pub answers_one_column : AnswersTotals 1 1 16000 (Ok (totalling 2 2 1 1 0))
unfolding totals_answer
answers_one_column = record { refused = λ why e. never_done (sym e); found = λ e. record { totals = totalling 2 2 1 1 0; of_size = one_column.are; told = refl } }

pub answers_short : AnswersTotals 1 1 0 (Err ShortWork)
unfolding totals_answer
answers_short = record { refused = λ why e. cc; found = λ e. never_done e }

-- these are two answers
pub not_one_answer : ((a b : (Result SizeTotals Refusal)) → AnswersTotals 1 1 0 a → AnswersTotals 1 1 16000 b → a ≡ b) → ⊥
not_one_answer same =
    let e : Err ShortWork ≡ Ok (totalling 2 2 1 1 0) = same _ _ answers_short answers_one_column in
    let z : ◌≡◌ {A = ℕ} 0 1 = cc in
    omega arith

-- three segments are 22, and not 5, whatever the words
pub not_5 : TotalsPromise 3 1 [] [] (Err ShortWork) → ⊥
unfolding totals_answer
not_5 p = let e : Err ShortWork ≡ Err NoSmallTable = p.answers.refused NoSmallTable refl in let s : ShortWork ≡ NoSmallTable = cc in omega (arith, ap (λ w. number_in (Err w)) s)

-- and leave the words as they were
pub not_changed : TotalsPromise 3 1 (0 ∷ []) (1 ∷ []) (Err NoSmallTable) → ⊥
unfolding totals_answer
not_changed p = let e : ◌≡◌ {A = List ℕ} (1 ∷ []) (0 ∷ []) = p.work.kept NoSmallTable refl (λ s. omega (arith, ap (λ w. number_in (Err w)) s)) in let z : ◌≡◌ {A = ℕ} 1 0 = cc in omega arith

-- a search of what a refused call hands out is refused by 1
pub not_as_search : search_answer (small_table_of 1 1 2).unit 1 16000 ≡ totals_answer 1 1 16000 → ⊥
unfolding search_answer tag_answer sound_of totals_answer small_table_of small_table_answer
not_as_search e = let one : ◌≡◌ {A = ℕ} 1 0 = ap number_in e in omega arith
