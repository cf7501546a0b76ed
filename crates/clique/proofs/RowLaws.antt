-- Bound is the most marks in one row of any table with the same collision vector. Assumes nothing.
use mathlib.Core.Path.{◌≡◌, ◌∙◌, subst}
use mathlib.Core.Bool.{Bool, true, false, cond}
use mathlib.Core.List.{List}
use Prim.Native.Nat.{ℕ, zero, suc, ◌+◌, ◌-◌, ◌≤◌}
use native.Mathlib.Omega.{arith}
use lib.Dec.{eqb}
use lib.ListN.{get_or}
use borrow.Author.Tests.{ne_eqb}
use Rattle.words.specs.Below.{count_below}
use Rattle.words.proofs.Tests.{nowhere, not_passed}
use Rattle.clique_size.proofs.MostLaws.{Widest, widest, behind, count_first}
use Rattle.unit.specs.Table.{Table}
use Rattle.unit.specs.Unit.{marked}
use Rattle.unit.specs.Calls.{tag_answer}
use Rattle.collision.specs.Pipeline.{Forbidden}
use Rattle.collision.specs.Vector.{vector_word, bound_of}
use Rattle.collision.specs.Answers.{bound_answer}
use Rattle.collision.specs.Meaning.{Bounded}
use Rattle.collision.proofs.AnswerLaws.{answer_given}
use Rattle.collision.proofs.VectorLaws.{marked_bounded, vector_bit}
use Rattle.clique.specs.Sets.{Clique, IsLargestClique, SameVector, InColumns, IsRowMaximum, EveryBound}
use Rattle.clique.proofs.SetLaws.{passing, passing_length}
use Rattle.clique.proofs.SegmentLaws.{segment_clique}
use Rattle.clique.proofs.LargestLaws.{clique_most, set_forbidden, largest_means}

-- the table with a further row, in which the columns that pass the test are marked
with_row : Table → (ℕ → Bool) → Table
with_row T f x s c = cond (eqb s 17) (f c) (T x s c)

module _ (T : Table) (b : Bounded T) (q : ℕ) where
  -- a row of another table with the same vector
  row_most : (U : Table) → SameVector T U q → (s columns : ℕ) → count_below columns (λ c. U q s c) ≤ bound_of T q
  row_most U same s columns =
      let k = segment_clique U q s columns in
      let set : List ℕ = passing columns (λ c. U q s c) in
      let c : Clique T q set = record {
        distinct = k.distinct;
        differ = λ i j h l o. (same (get_or set j 0 - get_or set i 0) (omega arith)).1 (k.differ i j h l o);
      } in
      omega (arith, clique_most T b q set c, passing_length columns (λ c. U q s c))

  -- the numbers of a widest test as columns, number k in column k + 1
  module _ (w : Widest (vector_word T q)) where
    abbrev U : Table
    U = with_row T (behind false w.test)

    -- no latency is 32 or more, and so no number
    far : (k : ℕ) → w.test k ≡ true → k ≤ 31
    far zero p = omega arith
    far (suc k) p =
        let d : suc k - 1 ≡ k = omega arith in
        let f = (vector_bit T b q (suc k) (omega arith)).0 (rw d (w.within k p)) in
        omega (arith, b.column_least q f.segment f.column f.later, b.column_lt q f.segment (f.column + suc k) f.earlier)

    columns : InColumns U
    unfolding with_row
    columns x s c = go (eqb s 17) c
      where
        go : (n : Bool) (c : ℕ) → cond n (behind false w.test c) (T x s c) ≡ true → (1 ≤ c) × (c ≤ 32)
        go true zero e = nowhere e
        go true (suc k) e = (omega arith, omega (arith, far k e))
        go false c e = (b.column_least x s c e, omega (arith, b.column_lt x s c e))

    two : (t c : ℕ) → 1 ≤ t → behind false w.test c ≡ true → behind false w.test (c + t) ≡ true → Forbidden T q t
    two t zero h p r = nowhere p
    two t (suc k) h p r =
        let e : suc k + t ≡ suc (k + t) = omega arith in
        let d : k + t - k ≡ t = omega arith in
        let later : w.test (k + t) ≡ true = rw e at r in
        rw d at (set_forbidden T b q k (k + t) (omega arith) (w.apart k (k + t) p later (omega arith)))

    same : SameVector T U q
    unfolding with_row
    same t h = (there, back)
      where
        old : (s c : ℕ) → T q s c ≡ true → eqb s 17 ≡ false
        old s c e = ne_eqb s 17 (λ z. omega (arith, b.segment_lt q s c e))

        there : Forbidden T q t → Forbidden U q t
        there f = record {
          segment = f.segment;
          column = f.column;
          later = rw (old f.segment f.column f.later) f.later;
          earlier = rw (old f.segment f.column f.later) f.earlier;
        }

        back : Forbidden U q t → Forbidden T q t
        back f = go (eqb f.segment 17) f.later f.earlier
          where
            go : (n : Bool) → cond n (behind false w.test f.column) (T q f.segment f.column) ≡ true
                → cond n (behind false w.test (f.column + t)) (T q f.segment (f.column + t)) ≡ true → Forbidden T q t
            go true p r = two t f.column h p r
            go false p r = record { segment = f.segment; column = f.column; later = p; earlier = r }

    size : count_below 33 (λ c. U q 17 c) ≡ bound_of T q
    unfolding with_row bound_of count_below
    size =
        let last : w.test 32 ≡ false = not_passed (w.test 32) (λ e. omega (arith, far 32 e)) in
        let all : cond (w.test 32) 1 0 + count_below 32 w.test ≡ bound_of T q = w.count in
        count_first 32 (behind false w.test) ∙ (rw last at all)

  pub row_means : IsRowMaximum T q (bound_of T q)
  row_means =
      let w = widest (vector_word T q) in
      record { reached = (U w, columns w, same w, (17, omega arith, size w)); most = row_most }

-- what the call answers
pub every_bound : EveryBound
unfolding bound_answer
every_bound u q n e =
    let same = (answer_given (tag_answer u q) (bound_of (marked u) q) n e).value in
    subst (λ m. IsLargestClique (marked u) q m × IsRowMaximum (marked u) q m) same
    (largest_means (marked u) (marked_bounded u) q, row_means (marked u) (marked_bounded u) q)
