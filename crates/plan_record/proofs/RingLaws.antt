-- The ring: which of its bits are 0, and how it is followed from bit to bit. Assumes nothing.
use Prim.Native.Nat.{ℕ, zero, suc, ◌+◌, ◌-◌, ◌*◌, ◌/◌, ◌%◌, ◌≤◌, ◌<◌}
use mathlib.Core.Path.{◌≡◌, refl, sym, ap, ◌∙◌}
use mathlib.Core.Bool.{true, false, not, ◌&&◌}
use mathlib.Core.Logic.{◌⊎◌, inl, inr, ⊎_elim}
use mathlib.Core.List.{List}
use native.Mathlib.Nat.{eq-or-lt_of_le}
use native.Mathlib.Numerals.{add-one}
use native.Mathlib.Omega.{arith}
use native.Mathlib.Decide.{dec_lt}
use borrow.Author.Count.{below_more}
use borrow.Author.Tests.{eqb-true, eq-eqb, ltb-true, lt-ltb, not-false}
use lib.Dec.{ltb, eqb}
use lib.ListN.{length, get_or, take}
use Rattle.words.specs.Bits.{is_set}
use Rattle.words.proofs.Tests.{nowhere, and_left, and_right, and_true, or_cases, or_true_right, not_passed, same_test}
use Rattle.words.proofs.BelowLaws.{some_intro, some_elim, word_set}
use Rattle.words.proofs.ListLaws.{list_length, list_at}
use Rattle.collision.specs.Pipeline.{total}
use Rattle.collision.proofs.StartLaws.{sum_more}
use Rattle.plan_record.specs.Record.{Recordable, starts, ring_byte, ring_length, ring_of, ring_bit, SumBelow, IsRing}
use Rattle.plan_record.specs.Inner.{Reached}
use Rattle.plan_record.proofs.CycleLaws.{sum_all, sum_rises}

-- Starts

-- a start is the sum of the first k latencies, for one k below K
pub record StartOf (l : List ℕ) (i : ℕ) : Type 0 where
  pub index : ℕ
  pub inside : index < length l
  pub sum : total (take index l) ≡ i

pub start_has : (l : List ℕ) (i : ℕ) → Recordable l → starts l i ≡ true → StartOf l i
unfolding starts
start_has l i r e =
    ⊎_elim
    (λ z. record { index = 0; inside = r.some; sum = sym (eqb-true i 0 z) })
    (λ h.
    let below = ltb-true i (total l) (and_left (ltb i (total l)) _ h) in
    let p = some_elim (length l) (λ k. eqb (total (take (k + 1) l)) i) (and_right (ltb i (total l)) _ h) in
    let s = eqb-true (total (take (p.at + 1) l)) i p.passed in
    record {
      index = p.at + 1;
      inside = go p.at p.inside s below (dec_lt (p.at + 1) (length l));
      sum = s;
    })
    (or_cases (eqb i 0) _ e)
  where
    go : (k : ℕ) → k < length l → total (take (k + 1) l) ≡ i → i < total l → Dec (k + 1 < length l) → k + 1 < length l
    go k h s below (yes y) = y
    go k h s below (no n) =
        let e : k + 1 ≡ length l = omega arith in
        absurd (omega (arith, sum_all l, ap (λ m. total (take m l)) e))

pub start_of : (l : List ℕ) (k : ℕ) → Recordable l → k < length l → starts l (total (take k l)) ≡ true
unfolding starts
start_of l zero r h = refl
start_of l (suc k) r h =
    let below = sum_rises l r (suc k) (length l) h (omega arith) in
    let here : eqb (total (take (k + 1) l)) (total (take (suc k) l)) ≡ true = eq-eqb _ _ (ap (λ m. total (take m l)) (add-one k)) in
    or_true_right (eqb (total (take (suc k) l)) 0) _
    (and_true (lt-ltb (total (take (suc k) l)) (total l) (omega (arith, below, sum_all l)))
    (some_intro (length l) (λ m. eqb (total (take (m + 1) l)) (total (take (suc k) l))) k (omega arith) here))

-- no start from S on
pub start_below : (l : List ℕ) (i : ℕ) → Recordable l → total l ≤ i → starts l i ≡ false
start_below l i r h =
    not_passed (starts l i)
    (λ e. let s = start_has l i r e in omega (arith, s.sum, sum_rises l r s.index (length l) s.inside (omega arith), sum_all l))

-- Bits

pub byte_bit : (l : List ℕ) (j b : ℕ) → b < 8 → is_set (ring_byte l j) b ≡ not (starts l (8 * j + b))
unfolding ring_byte
byte_bit l j b h = word_set 8 (λ b. not (starts l (8 * j + b))) b h

pub ring_length_lem : (l : List ℕ) → length (ring_of l) ≡ ring_length (total l)
unfolding ring_of
ring_length_lem l = list_length (ring_length (total l)) (ring_byte l)

pub ring_bit_lem : (l : List ℕ) (i : ℕ) → i < 8 * ring_length (total l) → ring_bit (ring_of l) i ≡ not (starts l i)
unfolding ring_of
ring_bit_lem l i h =
    let e : 8 * (i / 8) + i % 8 ≡ i = omega arith in
    ap (λ w. is_set w (i % 8)) (list_at (ring_length (total l)) (ring_byte l) (i / 8) (omega arith))
    ∙ byte_bit l (i / 8) (i % 8) (omega arith) ∙ ap (λ k. not (starts l k)) e

-- as the papers say it
start_said : (l : List ℕ) (i : ℕ) → starts l i ≡ true → (i ≡ 0) ⊎ SumBelow l i
unfolding starts
start_said l i e =
    ⊎_elim
    (λ z. inl (eqb-true i 0 z))
    (λ h.
    let p = some_elim (length l) (λ k. eqb (total (take (k + 1) l)) i) (and_right (ltb i (total l)) _ h) in
    inr (record {
      several = p.at + 1;
      some = omega arith;
      all = omega (arith, p.inside);
      sum = sym (eqb-true (total (take (p.at + 1) l)) i p.passed);
      below = ltb-true i (total l) (and_left (ltb i (total l)) _ h);
    }))
    (or_cases (eqb i 0) _ e)

said_start : (l : List ℕ) (i : ℕ) → (i ≡ 0) ⊎ SumBelow l i → starts l i ≡ true
unfolding starts
said_start l i (inl z) = rw (eq-eqb i 0 z)
said_start l i (inr s) =
    let k : s.several - 1 + 1 ≡ s.several = omega (arith, s.some) in
    or_true_right (eqb i 0) _
    (and_true (lt-ltb i (total l) s.below)
    (some_intro (length l) (λ k. eqb (total (take (k + 1) l)) i) (s.several - 1) (omega (arith, s.some, s.all))
    (eq-eqb _ i (ap (λ m. total (take m l)) k ∙ sym s.sum))))

pub ring_means : (l : List ℕ) → Recordable l → IsRing l (ring_of l)
ring_means l r = record {
  size = ring_length_lem l;
  bits = λ i h. let b = ring_bit_lem l i (omega arith) in
      (λ e. start_said l i (not-false (starts l i) (sym b ∙ e)), λ s. b ∙ ap not (said_start l i s));
  spare = λ i h m. ring_bit_lem l i (omega (arith, ring_length_lem l)) ∙ ap not (start_below l i r h);
}

-- The ring followed from bit to bit

decided : (x y : ℕ) → (x < y → ⊥) → y ≤ x
decided x y f = omega arith

pub reached_first : (l : List ℕ) → Recordable l → Reached l 0 0 0
reached_first l r = record { cycle = r; inside = omega arith; sum = refl; passed = λ k h. absurd (omega arith); ahead = λ h. omega arith }

-- the bit is that of the next start, or of none
pub reached_bit : (l : List ℕ) (i index next : ℕ) → Reached l i index next → starts l i ≡ ltb index (length l) && eqb i next
reached_bit l i index next a = same_test (starts l i) (ltb index (length l) && eqb i next) there back
  where
    there : starts l i ≡ true → ltb index (length l) && eqb i next ≡ true
    there e =
        let s = start_has l i a.cycle e in
        let low : s.index < index → ⊥ = λ h. omega (arith, a.passed s.index h, s.sum) in
        let least : index ≤ s.index = omega (arith, decided s.index index low) in
        let here : index < length l = omega (arith, s.inside) in
        let same : index ≡ s.index =
        ⊎_elim (λ e. e)
        (λ o. absurd (omega (arith, sum_rises l a.cycle index s.index o (omega (arith, s.inside)), s.sum, a.sum, a.ahead here)))
        (eq-or-lt_of_le least) in
        and_true (lt-ltb index (length l) here) (eq-eqb i next (sym s.sum ∙ ap (λ k. total (take k l)) (sym same) ∙ sym a.sum))

    back : ltb index (length l) && eqb i next ≡ true → starts l i ≡ true
    back e =
        let h = ltb-true index (length l) (and_left (ltb index (length l)) _ e) in
        let n = eqb-true i next (and_right (ltb index (length l)) _ e) in
        ap (starts l) (n ∙ a.sum) ∙ start_of l index a.cycle h

-- at a start the next is a latency further
pub reached_start : (l : List ℕ) (i index next : ℕ) → Reached l i index next → ltb index (length l) && eqb i next ≡ true
    → Reached l (i + 1) (index + 1) (next + get_or l index 0)
reached_start l i index next a e =
    let h = ltb-true index (length l) (and_left (ltb index (length l)) _ e) in
    let n = eqb-true i next (and_right (ltb index (length l)) _ e) in
    record {
      cycle = a.cycle;
      inside = omega arith;
      sum = sum_more l index next h a.sum;
      passed = below_more _ index (λ k m. omega (arith, a.passed k m)) (omega (arith, a.sum));
      ahead = λ m. omega (arith, a.cycle.least index h);
    }

pub reached_tick : (l : List ℕ) (i index next : ℕ) → Reached l i index next → ltb index (length l) && eqb i next ≡ false → Reached l (i + 1) index next
reached_tick l i index next a e = record {
  cycle = a.cycle;
  inside = a.inside;
  sum = a.sum;
  passed = λ k h. omega (arith, a.passed k h);
  ahead = λ h. let n = other h in omega (arith, a.ahead h);
}
  where
    other : index < length l → i ≡ next → ⊥
    other h n = nowhere (sym e ∙ and_true (lt-ltb _ _ h) (eq-eqb i next n))

-- a byte further
pub reached_next : (l : List ℕ) (j index next : ℕ) → Reached l (8 * j + 8) index next → Reached l (8 * (j + 1)) index next
reached_next l j index next r = let e : 8 * j + 8 ≡ 8 * (j + 1) = omega arith in rw e at r
