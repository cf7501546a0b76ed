-- The totals of the two smallest sizes. Assumes nothing.
use Prim.Native.Nat.{ℕ, zero, suc, ◌*◌, ◌≤◌, ◌<◌}
use mathlib.Core.Path.{◌≡◌, refl, sym, ap, ◌∙◌, subst}
use mathlib.Core.List.{List, [], ◌∷◌}
use native.Mathlib.Omega.{arith}
use lib.ListN.{length}
use Rattle.words.specs.Below.{some_below, span_below, count_below, word_below}
use Rattle.words.proofs.BelowLaws.{count_same}
use Rattle.unit.specs.Table.{Table}
use Rattle.collision.specs.Pipeline.{total}
use Rattle.collision.specs.Vector.{collides, row_word, vector_word, bound_of}
use Rattle.clique_size.specs.Largest.{most_of, largest_clique}
use Rattle.diagram.specs.States.{expand, list_from}
use Rattle.planner.specs.Plans.{Best}
use Rattle.papers.proofs.PotentialLaws.{is_potential}
use Rattle.papers.proofs.CycleLaws.{is_first, is_cycle}
use Rattle.papers.proofs.DiagramLaws.{Computed, best_computed}
use Rattle.table_numbers.specs.Tables.{table_count, small_table, all_tables, nth_table}
use Rattle.table_numbers.specs.Inner.{Sized}
use Rattle.table_numbers.proofs.ListLaws.{tables_length, tables_at}
use Rattle.table_totals.specs.Totals.{Lowest, BestCycles, at_bound, TotalsOf}
use Rattle.table_totals.proofs.MeasureLaws.{bounded}
use Rattle.total_claims.specs.Examples.{totalling, OneColumn, TwoColumns}
use Rattle.total_claims.proofs.UniqueLaws.{one_totals}

-- The list of a size, by its numbers

listed_best : (s c : ℕ) (best : ℕ → List ℕ) → ((n : ℕ) → n < table_count s c → Best 1 (small_table s c n) 1 (best n)) → BestCycles (all_tables s c) best
listed_best s c best f n l =
    let b : n < table_count s c = omega (arith, tables_length s c) in
    subst (λ (T : Table). Best 1 T 1 (best n)) (sym (tables_at s c n b)) (f n b)

listed_count : (s c : ℕ) (best : ℕ → List ℕ)
    → count_below (length (all_tables s c)) (λ n. at_bound (nth_table (all_tables s c) n) (best n)) ≡ count_below (table_count s c) (λ n. at_bound (small_table s c n) (best n))
listed_count s c best =
    ap (λ k. count_below k (λ n. at_bound (nth_table (all_tables s c) n) (best n))) (tables_length s c)
    ∙ count_same (table_count s c) (λ n. at_bound (nth_table (all_tables s c) n) (best n)) (λ n. at_bound (small_table s c n) (best n))
    (λ n l. ap (λ (T : Table). at_bound T (best n)) (tables_at s c n l))

-- A table where no latency is forbidden

pub best_one : {s c : ℕ} → Sized s c → (n : ℕ) → vector_word (small_table s c n) 1 ≡ 0 → Best 1 (small_table s c n) 1 (1 ∷ [])
unfolding span_below expand list_from is_cycle is_potential is_first
best_one {s} {c} m n e = (best_computed computed (1 ∷ []) 1 (record { heights = []; closed = refl; potential = refl; rotation = refl; sums = refl })).best
  where
    computed : Computed (small_table s c n) 1 0 0 (0 ∷ [])
    computed = record { bounded = bounded m n; vector = e; wide = refl; listed = refl; few = refl }

-- and one where 1 is the only forbidden one
best_two : {s c : ℕ} → Sized s c → (n : ℕ) → vector_word (small_table s c n) 1 ≡ 1 → Best 1 (small_table s c n) 1 (2 ∷ [])
unfolding span_below expand list_from is_cycle is_potential is_first
best_two {s} {c} m n e = (best_computed computed (2 ∷ []) 2 (record { heights = []; closed = refl; potential = refl; rotation = refl; sums = refl })).best
  where
    computed : Computed (small_table s c n) 1 1 1 (1 ∷ [])
    computed = record { bounded = bounded m n; vector = e; wide = refl; listed = refl; few = refl }

bound_one : (T : Table) → vector_word T 1 ≡ 0 → bound_of T 1 ≡ 1
unfolding bound_of largest_clique most_of
bound_one T e = ap largest_clique e

bound_two : (T : Table) → vector_word T 1 ≡ 1 → bound_of T 1 ≡ 2
unfolding bound_of largest_clique most_of
bound_two T e = ap largest_clique e

lowest : (p : ℕ) → Lowest p 1
lowest p = record { positive = omega arith; least = λ a b h e. h }

-- One column

pub sized11 : Sized 1 1
sized11 = record { segments1 = omega arith; segments2 = omega arith; columns1 = omega arith; columns6 = omega arith }

pub vector11 : (n : ℕ) → n < 2 → vector_word (small_table 1 1 n) 1 ≡ 0
unfolding row_word word_below collides some_below small_table
vector11 zero l = refl
vector11 (suc zero) l = refl
vector11 (suc (suc n)) l = absurd (omega arith)

best11 : ℕ → List ℕ
best11 n = 1 ∷ []

totals11 : TotalsOf 1 1 (totalling 2 2 1 1 0)
unfolding best11 count_below
totals11 = record {
  best = best11;
  bests = listed_best 1 1 best11 (λ n l. best_one sized11 n (vector11 n l));
  by = record {
    tables = sym (tables_length 1 1);
    reaching = sym (listed_count 1 1 best11 ∙ rw (bound_one (small_table 1 1 0) (vector11 0 (omega arith)), bound_one (small_table 1 1 1) (vector11 1 (omega arith))) refl);
    largest = λ n l. omega arith;
    lowest = lowest 1;
    first = omega (arith, tables_length 1 1);
    reached = refl;
    earlier = λ n l. absurd (omega arith);
  };
}

pub one_column : OneColumn
one_column = record { are = totals11; only = λ u x. one_totals (all_tables 1 1) u _ x totals11 }

-- Two columns

sized12 : Sized 1 2
sized12 = record { segments1 = omega arith; segments2 = omega arith; columns1 = omega arith; columns6 = omega arith }

vector12 : (n : ℕ) → n < 3 → vector_word (small_table 1 2 n) 1 ≡ 0
unfolding row_word word_below collides some_below small_table
vector12 zero l = refl
vector12 (suc zero) l = refl
vector12 (suc (suc zero)) l = refl
vector12 (suc (suc (suc n))) l = absurd (omega arith)

-- both columns marked
vector12_both : vector_word (small_table 1 2 3) 1 ≡ 1
unfolding row_word word_below collides some_below small_table
vector12_both = refl

best12 : ℕ → List ℕ
best12 zero = 1 ∷ []
best12 (suc zero) = 1 ∷ []
best12 (suc (suc zero)) = 1 ∷ []
best12 (suc (suc (suc n))) = 2 ∷ []

bests12 : (n : ℕ) → n < 4 → Best 1 (small_table 1 2 n) 1 (best12 n)
unfolding best12
bests12 zero l = best_one sized12 0 (vector12 0 (omega arith))
bests12 (suc zero) l = best_one sized12 1 (vector12 1 (omega arith))
bests12 (suc (suc zero)) l = best_one sized12 2 (vector12 2 (omega arith))
bests12 (suc (suc (suc zero))) l = best_two sized12 3 vector12_both
bests12 (suc (suc (suc (suc n)))) l = absurd (omega arith)

largest12 : (n : ℕ) → total (best12 n) * 1 ≤ 2 * length (best12 n)
unfolding best12
largest12 zero = omega arith
largest12 (suc zero) = omega arith
largest12 (suc (suc zero)) = omega arith
largest12 (suc (suc (suc n))) = omega arith

earlier12 : (n : ℕ) → n < 3 → total (best12 n) * 1 < 2 * length (best12 n)
unfolding best12
earlier12 zero l = omega arith
earlier12 (suc zero) l = omega arith
earlier12 (suc (suc zero)) l = omega arith
earlier12 (suc (suc (suc n))) l = absurd (omega arith)

totals12 : TotalsOf 1 2 (totalling 4 4 2 1 3)
unfolding best12 count_below
totals12 = record {
  best = best12;
  bests = listed_best 1 2 best12 bests12;
  by = record {
    tables = sym (tables_length 1 2);
    reaching = sym (listed_count 1 2 best12 ∙ rw (
      bound_one (small_table 1 2 0) (vector12 0 (omega arith)),
      bound_one (small_table 1 2 1) (vector12 1 (omega arith)),
      bound_one (small_table 1 2 2) (vector12 2 (omega arith)),
      bound_two (small_table 1 2 3) vector12_both,
    ) refl);
    largest = λ n l. largest12 n;
    lowest = lowest 2;
    first = omega (arith, tables_length 1 2);
    reached = refl;
    earlier = earlier12;
  };
}

pub two_columns : TwoColumns
two_columns = record { are = totals12; only = λ u x. one_totals (all_tables 1 2) u _ x totals12 }
