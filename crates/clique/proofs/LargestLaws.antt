-- Bound is the size of the largest clique. Assumes nothing.
use mathlib.Core.Path.{◌≡◌, ap, ◌∙◌}
use mathlib.Core.Bool.{true, false, ◌&&◌}
use mathlib.Core.List.{List, [], ◌∷◌}
use Prim.Native.Nat.{ℕ, zero, suc, ◌+◌, ◌-◌, ◌≤◌, ◌<◌}
use native.Mathlib.Omega.{arith}
use lib.ListN.{length, get_or}
use Rattle.words.specs.Bits.{is_set}
use Rattle.words.specs.Below.{some_below, word_below}
use Rattle.words.proofs.BelowLaws.{some_none, word_same}
use Rattle.clique_size.specs.Largest.{most_of, largest_clique}
use Rattle.clique_size.proofs.MostLaws.{Apart, count_largest, widest}
use Rattle.unit.specs.Table.{Table}
use Rattle.collision.specs.Pipeline.{Forbidden, total}
use Rattle.collision.specs.Vector.{collides, row_word, vector_word, bound_of}
use Rattle.collision.specs.Meaning.{Bounded}
use Rattle.collision.proofs.VectorLaws.{vector_bit, row_lt}
use Rattle.diagram.specs.States.{has}
use Rattle.clique.specs.Sets.{Clique, IsLargestClique}
use Rattle.clique.proofs.SetLaws.{passing, passing_length, passing_clique, clique_count, clique_differ}

module _ (T : Table) (b : Bounded T) (q : ℕ) where
  pub set_forbidden : (x y : ℕ) → x < y → is_set (vector_word T q) (y - x - 1) ≡ true → Forbidden T q (y - x)
  set_forbidden x y h = (vector_bit T b q (y - x) (omega arith)).0

  -- no clique is larger
  pub clique_most : (set : List ℕ) → Clique T q set → length set ≤ bound_of T q
  unfolding bound_of
  clique_most set k =
      omega (arith, clique_count T q set k, count_largest (vector_word T q) (suc (total set)) (λ x. has x set) (row_lt T q q) apart)
    where
      apart : Apart (vector_word T q) (λ x. has x set)
      apart x y p r h =
          let e : y ≡ x + (y - x) = omega arith in
          (vector_bit T b q (y - x) (omega arith)).1 (clique_differ T q set k x (y - x) (omega arith) p (rw e at r))

  -- one is as large
  pub clique_reached : (set : List ℕ) × Clique T q set × (length set ≡ bound_of T q)
  unfolding bound_of
  clique_reached =
      let w = widest (vector_word T q) in (
        passing 33 w.test,
        passing_clique T q 33 w.test (λ x y p r h. set_forbidden x y h (w.apart x y p r h)),
        passing_length 33 w.test ∙ w.count,
      )

  pub largest_means : IsLargestClique T q (bound_of T q)
  largest_means = record { reached = clique_reached; most = clique_most }

-- A set of one always counts, and a function without marks has no other

pub one_counts : (T : Table) (q x : ℕ) → Clique T q (x ∷ [])
one_counts T q x = record { distinct = λ i j h k e. omega arith; differ = λ i j h k l. absurd (same i j h k l) }
  where
    same : (i j : ℕ) → i < 1 → j < 1 → get_or (x ∷ []) i 0 < get_or (x ∷ []) j 0 → ⊥
    same zero zero h k l = omega arith
    same zero (suc j) h k l = omega arith
    same (suc i) j h k l = omega arith

pub unmarked_bound : (T : Table) (q : ℕ) → ((s c : ℕ) → T q s c ≡ false) → bound_of T q ≡ 1
unfolding bound_of largest_clique most_of row_word word_below collides
unmarked_bound T q none = ap largest_clique (word_same 32 (λ k. collides T q q (k + 1)) (λ k. false) (λ k h. free (k + 1)))
  where
    free : (t : ℕ) → collides T q q t ≡ false
    free t = some_none 17 (λ s. some_below 33 (λ c. T q s c && T q s (c + t))) (λ s h. some_none 33 (λ c. T q s c && T q s (c + t)) (λ c l. rw (none s c)))
