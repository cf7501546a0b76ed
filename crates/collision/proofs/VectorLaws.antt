-- The row, the vector and the numbers of a function mean what `specs/` says of them. Assumes nothing.
use Prim.Native.Nat.{ℕ, zero, suc, ◌+◌, ◌-◌, ◌*◌, ◌/◌, ◌%◌, ◌^◌, ◌<◌, ◌≤◌}
use mathlib.Core.Path.{◌≡◌, refl, ap, ◌∙◌, sym, subst}
use mathlib.Core.Logic.{◌⊎◌, inl, inr, ◌↔◌}
use mathlib.Core.Bool.{true, false, not, ◌&&◌}
use native.Mathlib.Nat.{mul-mod_left, div-add-mod', one-le-mul}
use native.Mathlib.Decide.{dec_lt}
use native.Mathlib.Omega.{arith}
use lib.Dec.{eqb}
use borrow.Author.Tests.{eqb-true, eq-eqb, not-true, not-false}
use Rattle.words.specs.Bits.{is_set}
use Rattle.words.specs.Below.{some_below, count_below, span_below, max_below, least_from, word_below}
use Rattle.words.proofs.Tests.{nowhere, and_left, and_right, and_true, not_passed}
use Rattle.words.proofs.BitLaws.{zero_unset}
use Rattle.words.proofs.BelowLaws.{some_intro, some_elim, count_none, count_word, span_above, span_passes, span_same, max_above, max_reached, least_first, least_skips, least_passes, word_lt, word_above, word_set, word_span, word_none}
use Rattle.unit.specs.declared.FunctionUnit.{FunctionUnit}
use Rattle.unit.specs.Table.{Table}
use Rattle.unit.specs.Unit.{marked}
use Rattle.unit.proofs.SoundLaws.{marked_place}
use Rattle.collision.specs.Pipeline.{Collides, Forbidden}
use Rattle.collision.specs.Vector.{collides, row_word, vector_word, largest_forbidden, marks_of, upper_of, suits, constant_of}
use Rattle.collision.specs.Meaning.{Bounded, IsLargest, IsConstant, IsMostMarks}

pub marked_bounded : (u : FunctionUnit) → Bounded (marked u)
marked_bounded u = record {
  segment_lt = λ q s c e. omega (arith, (marked_place u q s c e).segment16);
  column_lt = λ q s c e. omega (arith, (marked_place u q s c e).column32);
  column_least = λ q s c e. (marked_place u q s c e).column1;
}

-- Of any table

pub collides→ : (T : Table) (q r t : ℕ) → collides T q r t ≡ true → Collides T q r t
unfolding collides
collides→ T q r t e =
    let s = some_elim 17 (λ s. some_below 33 (λ c. T q s c && T r s (c + t))) e in
    let c = some_elim 33 (λ c. T q s.at c && T r s.at (c + t)) s.passed in
    record {
      segment = s.at;
      column = c.at;
      later = and_left (T q s.at c.at) _ c.passed;
      earlier = and_right (T q s.at c.at) _ c.passed;
    }

pub row_lt : (T : Table) (q r : ℕ) → row_word T q r < 2 ^ 32
unfolding row_word
row_lt T q r = word_lt 32 (λ k. collides T q r (k + 1))

-- Upper counts the forbidden latencies
pub upper_forbidden : (T : Table) (q : ℕ) → upper_of T q ≡ count_below 32 (λ k. collides T q q (k + 1)) + 1
unfolding upper_of row_word
upper_forbidden T q = ap (λ n. n + 1) (count_word 32 (λ k. collides T q q (k + 1)))

-- n is read off the vector, which has no bit from n on
pub largest_span : (T : Table) (q : ℕ) → span_below 32 (is_set (vector_word T q)) ≡ largest_forbidden T q
unfolding largest_forbidden row_word
largest_span T q = span_same 32 (is_set (vector_word T q)) (λ k. collides T q q (k + 1)) (λ k h. word_set 32 (λ k. collides T q q (k + 1)) k h)

pub vector_fits : (T : Table) (q : ℕ) → vector_word T q < 2 ^ largest_forbidden T q
unfolding largest_forbidden row_word
vector_fits T q = word_span 32 (λ k. collides T q q (k + 1))

-- Of a bounded table

module _ (T : Table) (b : Bounded T) where
  collides← : (q r t : ℕ) → Collides T q r t → collides T q r t ≡ true
  unfolding collides
  collides← q r t x =
      some_intro 17 (λ s. some_below 33 (λ c. T q s c && T r s (c + t))) x.segment (b.segment_lt q x.segment x.column x.later)
      (some_intro 33 (λ c. T q x.segment c && T r x.segment (c + t)) x.column (b.column_lt q x.segment x.column x.later)
      (and_true x.later x.earlier))

  -- the test says what `Collides` says
  pub collides_means : (q r t : ℕ) → (collides T q r t ≡ true) ↔ Collides T q r t
  collides_means q r t = (collides→ T q r t, collides← q r t)

  -- marks are at most 31 columns apart
  pub collides_near : (q r t : ℕ) → Collides T q r t → t < 32
  collides_near q r t x =
      omega (arith, b.column_least q x.segment x.column x.later, b.column_lt r x.segment (x.column + t) x.earlier)

  far : (q r t : ℕ) → 32 ≤ t → collides T q r t ≡ false
  far q r t h = not_passed (collides T q r t) (λ e. omega (arith, collides_near q r t (collides→ T q r t e)))

  -- Words

  row_set : (q r t : ℕ) → 1 ≤ t → is_set (row_word T q r) (t - 1) ≡ collides T q r t
  unfolding row_word
  row_set q r t h = go (dec_lt (t - 1) 32)
    where
      go : Dec (t - 1 < 32) → is_set (word_below 32 (λ k. collides T q r (k + 1))) (t - 1) ≡ collides T q r t
      go (yes l) = let e : t - 1 + 1 ≡ t = omega arith in word_set 32 (λ k. collides T q r (k + 1)) (t - 1) l ∙ ap (collides T q r) e
      go (no l) =
          zero_unset (word_below 32 (λ k. collides T q r (k + 1))) (t - 1) (word_above 32 (λ k. collides T q r (k + 1)) (t - 1) (omega arith))
          ∙ sym (far q r t (omega arith))

  -- column t of a row is 1 exactly when the later task would collide with the earlier
  pub row_bit : (q r t : ℕ) → 1 ≤ t → (is_set (row_word T q r) (t - 1) ≡ true) ↔ Collides T q r t
  row_bit q r t h = (
    (λ e. collides→ T q r t (sym (row_set q r t h) ∙ e)),
    (λ x. row_set q r t h ∙ collides← q r t x),
  )

  -- column t of the vector is 1 exactly when t is forbidden
  pub vector_bit : (q t : ℕ) → 1 ≤ t → (is_set (vector_word T q) (t - 1) ≡ true) ↔ Forbidden T q t
  vector_bit q t h = row_bit q q t h

  pub row_31 : (q r : ℕ) → row_word T q r < 2 ^ 31
  unfolding row_word
  row_31 q r = subst (λ (w : ℕ). w < 2 ^ 31) (word_none 31 (λ k. collides T q r (k + 1)) (far q r 32 (omega arith))) (word_lt 31 (λ k. collides T q r (k + 1)))

  pub vector_lt : (q : ℕ) → vector_word T q < 2 ^ 31
  vector_lt q = row_31 q q

  -- n

  pub largest_means : (q : ℕ) → IsLargest T q (largest_forbidden T q)
  unfolding largest_forbidden
  largest_means q = record { reached = reached (span_below 32 (λ k. collides T q q (k + 1))) refl; most = most }
    where
      reached : (n : ℕ) → span_below 32 (λ k. collides T q q (k + 1)) ≡ n → (n ≡ 0) ⊎ Forbidden T q n
      reached zero e = inl refl
      reached (suc k) e =
          let s : k + 1 ≡ suc k = omega arith in
          inr (subst (Forbidden T q) s (collides→ T q q (k + 1) (span_passes 32 (λ k. collides T q q (k + 1)) k e)))

      most : (t : ℕ) → 1 ≤ t → Forbidden T q t → t ≤ span_below 32 (λ k. collides T q q (k + 1))
      most t h x =
          let s : t - 1 + 1 ≡ t = omega arith in
          omega (arith, span_above 32 (λ k. collides T q q (k + 1)) (t - 1) (omega (arith, collides_near q q t x)) (ap (collides T q q) s ∙ collides← q q t x))

  -- Constant

  -- a latency suits when none of its multiples is forbidden
  suits_allowed : (q m : ℕ) → 1 ≤ m → suits T q m ≡ true → (k : ℕ) → 1 ≤ k → Forbidden T q (k * m) → ⊥
  unfolding suits
  suits_allowed q m h e k l x =
      let p : 1 ≤ k * m = one-le-mul l h in
      let s : k * m - 1 + 1 ≡ k * m = omega arith in
      nowhere (sym (not-true (some_below 32 (λ k. eqb ((k + 1) % m) 0 && collides T q q (k + 1))) e)
      ∙ some_intro 32 (λ k. eqb ((k + 1) % m) 0 && collides T q q (k + 1)) (k * m - 1) (omega (arith, collides_near q q (k * m) x))
      (and_true (eq-eqb ((k * m - 1 + 1) % m) 0 (ap (λ n. n % m) s ∙ mul-mod_left k m)) (ap (collides T q q) s ∙ collides← q q (k * m) x)))

  suits_not : (q m : ℕ) → 1 ≤ m → suits T q m ≡ false → (k : ℕ) × (1 ≤ k) × Forbidden T q (k * m)
  unfolding suits
  suits_not q m h e =
      let p = some_elim 32 (λ k. eqb ((k + 1) % m) 0 && collides T q q (k + 1)) (not-false (some_below 32 (λ k. eqb ((k + 1) % m) 0 && collides T q q (k + 1))) e) in
      let t : ℕ = p.at + 1 in
      let z : t % m ≡ 0 = eqb-true (t % m) 0 (and_left (eqb (t % m) 0) _ p.passed) in
      let s : t ≡ t / m * m = omega (arith, div-add-mod' t m) in
      (t / m, some p.at (t / m) s, subst (Forbidden T q) s (collides→ T q q t (and_right (eqb (t % m) 0) _ p.passed)))
    where
      some : (n k : ℕ) → n + 1 ≡ k * m → 1 ≤ k
      some n zero s = absurd (omega arith)
      some n (suc k) s = omega arith

  -- 32 always suits
  suits_32 : (q : ℕ) → suits T q 32 ≡ true
  unfolding suits
  suits_32 q =
      ap not (not_passed (some_below 32 (λ k. eqb ((k + 1) % 32) 0 && collides T q q (k + 1)))
      (λ e.
      let p = some_elim 32 (λ k. eqb ((k + 1) % 32) 0 && collides T q q (k + 1)) e in
      let z : (p.at + 1) % 32 ≡ 0 = eqb-true ((p.at + 1) % 32) 0 (and_left (eqb ((p.at + 1) % 32) 0) _ p.passed) in
      nowhere (sym (far q q (p.at + 1) (omega (arith, p.inside))) ∙ and_right (eqb ((p.at + 1) % 32) 0) _ p.passed)))

  pub constant_means : (q : ℕ) → IsConstant T q (constant_of T q)
  unfolding constant_of
  constant_means q =
      let m : ℕ = least_from 32 1 (suits T q) in
      let one : 1 ≤ m = least_first 32 1 (suits T q) in
      record {
        least = one;
        most = most (dec_lt 32 m);
        allowed = suits_allowed q m one (least_passes 32 1 (suits T q) 32 (omega arith) (omega arith) (suits_32 q));
        smaller = λ j h l. suits_not q j h (least_skips 32 1 (suits T q) j h l);
      }
    where
      most : Dec (32 < least_from 32 1 (suits T q)) → least_from 32 1 (suits T q) ≤ 32
      most (yes l) = nowhere (sym (least_skips 32 1 (suits T q) 32 (omega arith) l) ∙ suits_32 q)
      most (no l) = omega arith

  -- Marks

  pub marks_means : (q : ℕ) → IsMostMarks T q (marks_of T q)
  unfolding marks_of
  marks_means q = record { most = λ s. most s (dec_lt s 17); reached = λ h. let r = max_reached 16 (λ s. count_below 33 (λ c. T q s c)) in (r.at, r.value) }
    where
      most : (s : ℕ) → Dec (s < 17) → count_below 33 (λ c. T q s c) ≤ max_below 17 (λ s. count_below 33 (λ c. T q s c))
      most s (yes h) = max_above 17 (λ s. count_below 33 (λ c. T q s c)) s h
      most s (no h) =
          omega (arith, count_none 33 (λ c. T q s c) (λ c l. not_passed (T q s c) (λ e. omega (arith, b.segment_lt q s c e))))
