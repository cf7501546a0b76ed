-- What the calculation on a vector's word means: a test of numbers that takes as many, and none that takes more. Assumes nothing.
use mathlib.Core.Path.{◌≡◌, refl, sym, ap, ◌∙◌}
use mathlib.Core.Bool.{Bool, true, false, cond, ◌&&◌}
use Prim.Native.Nat.{ℕ, zero, suc, ◌+◌, ◌-◌, ◌/◌, ◌^◌, ◌≤◌, ◌<◌, max, zero-le}
use native.Mathlib.Nat.{not-suc-le-zero, two-pow-succ}
use native.Mathlib.Numerals.{add-one}
use native.Mathlib.Decide.{dec_le}
use native.Mathlib.Omega.{arith}
use lib.Bits.{bit_and, and_le_l}
use lib.Dec.{eqb}
use Rattle.words.specs.Bits.{bit, is_set}
use Rattle.words.specs.Below.{count_below}
use Rattle.words.proofs.Tests.{nowhere, and_left, and_right, and_true, not_passed}
use Rattle.words.proofs.BitLaws.{bit_shr, set_and, zero_unset, bit_of_zero}
use Rattle.words.proofs.BelowLaws.{count_start, count_same, count_none}
use Rattle.clique_size.specs.Largest.{most_of, largest_clique}

-- Bits of half a word, and a count from its first number

pub half_set : (w k : ℕ) → is_set (w / 2) k ≡ is_set w (suc k)
half_set w k = let e : 1 + k ≡ suc k = omega arith in ap (λ x. eqb x 1) (bit_shr w 1 k ∙ ap (bit w) e)

pub count_first : (n : ℕ) (f : ℕ → Bool) → count_below (suc n) f ≡ cond (f 0) 1 0 + count_below n (λ k. f (suc k))
count_first n f =
    ap (λ m. count_below m f) (sym (add-one n)) ∙ count_start n f
    ∙ ap (λ c. cond (f 0) 1 0 + c) (count_same n (λ k. f (k + 1)) (λ k. f (suc k)) (λ k h. ap f (add-one k)))

-- Tests of which every two numbers that pass differ by a forbidden latency

abbrev Within : ℕ → ℕ → (ℕ → Bool) → Type 0
Within n w f = (k : ℕ) → k < n → f k ≡ true → is_set w k ≡ true

abbrev pub Apart : ℕ → (ℕ → Bool) → Type 0
Apart v f = (x y : ℕ) → f x ≡ true → f y ≡ true → x < y → is_set v (y - x - 1) ≡ true

apart_suc : (v : ℕ) (f : ℕ → Bool) → Apart v f → Apart v (λ k. f (suc k))
apart_suc v f a x y p q h = let e : suc y - suc x - 1 ≡ y - x - 1 = omega arith in rw e at (a (suc x) (suc y) p q (omega arith))

-- those above a first number that passes
above_first : (v : ℕ) (f : ℕ → Bool) → Apart v f → f 0 ≡ true → (k : ℕ) → f (suc k) ≡ true → is_set v k ≡ true
above_first v f a p k q = let e : suc k - 0 - 1 ≡ k = omega arith in rw e at (a 0 (suc k) p q (omega arith))

half_within : (n w : ℕ) (f : ℕ → Bool) → Within (suc n) w f → Within n (w / 2) (λ k. f (suc k))
half_within n w f i k h p = half_set w k ∙ i (suc k) (omega arith) p

-- no test takes more
pub half_lt : (m w : ℕ) → w < 2 ^ suc m → w / 2 < 2 ^ m
half_lt m w h = omega (arith, two-pow-succ m)

pub and_half_lt : (m v w : ℕ) → w < 2 ^ suc m → bit_and (w / 2) v < 2 ^ m
and_half_lt m v w h = omega (arith, half_lt m w h, and_le_l (w / 2) v)

most_most : (m n v w : ℕ) (f : ℕ → Bool) → w < 2 ^ m → Within n w f → Apart v f → count_below n f ≤ most_of m v w
unfolding most_of count_below
most_most m zero v w f l i a = zero-le
most_most zero (suc n) v w f l i a =
    let z : w ≡ 0 = omega arith in
    omega (arith, count_none (suc n) f (λ k h. not_passed (f k) (λ p. nowhere (sym (zero_unset 0 k (bit_of_zero k)) ∙ (rw z at (i k h p))))))
most_most (suc m) (suc n) v w f l i a =
    go (f 0) refl (most_most m n v (bit_and (w / 2) v) (λ k. f (suc k)) (and_half_lt m v w l))
    (most_most m n v (w / 2) (λ k. f (suc k)) (half_lt m w l) (half_within n w f i) (apart_suc v f a))
  where
    go : (b : Bool) → f 0 ≡ b
        → (Within n (bit_and (w / 2) v) (λ k. f (suc k)) → Apart v (λ k. f (suc k)) → count_below n (λ k. f (suc k)) ≤ most_of m v (bit_and (w / 2) v))
        → count_below n (λ k. f (suc k)) ≤ most_of m v (w / 2)
        → count_below (suc n) f ≤ cond (is_set w 0) (max (suc (most_of m v (bit_and (w / 2) v))) (most_of m v (w / 2))) (most_of m v (w / 2))
    go true e r s =
        let c : count_below n (λ k. f (suc k)) ≤ most_of m v (bit_and (w / 2) v) =
        r (λ k h p. set_and (w / 2) v k ∙ and_true (half_within n w f i k h p) (above_first v f a e k p)) (apart_suc v f a) in
        rw (i 0 (omega arith) e, count_first n f, e) (omega arith)
    go false e r s = rw (count_first n f, e) (pick (is_set w 0))
      where
        pick : (b : Bool) → 0 + count_below n (λ k. f (suc k)) ≤ cond b (max (suc (most_of m v (bit_and (w / 2) v))) (most_of m v (w / 2))) (most_of m v (w / 2))
        pick true = omega arith
        pick false = omega arith

-- and one takes as many

pub record Taken (n v w m : ℕ) : Type 0 where
  pub test : ℕ → Bool
  pub within : (k : ℕ) → test k ≡ true → is_set w k ≡ true
  pub apart : Apart v test
  pub count : count_below n test ≡ m

-- 0 as told, and the numbers of a test each one more
abbrev pub behind : Bool → (ℕ → Bool) → ℕ → Bool
behind b f zero = b
behind b f (suc k) = f k

behind_apart : (v : ℕ) (b : Bool) (f : ℕ → Bool) → Apart v f → (b ≡ true → (k : ℕ) → f k ≡ true → is_set v k ≡ true) → Apart v (behind b f)
behind_apart v b f a i zero zero p q h = absurd (not-suc-le-zero h)
behind_apart v b f a i zero (suc y) p q h = let e : suc y - 0 - 1 ≡ y = omega arith in rw e (i p y q)
behind_apart v b f a i (suc x) zero p q h = absurd (not-suc-le-zero h)
behind_apart v b f a i (suc x) (suc y) p q h =
    let e : suc y - suc x - 1 ≡ y - x - 1 = omega arith in
    rw e (a x y p q (omega arith))

-- 0 is left out
taken_rest : (n v w m : ℕ) → Taken n v (w / 2) m → Taken (suc n) v w m
taken_rest n v w m t = record {
  test = behind false t.test;
  within = within;
  apart = behind_apart v false t.test t.apart (λ e. nowhere e);
  count = count_first n (behind false t.test) ∙ omega (arith, t.count);
}
  where
    within : (k : ℕ) → behind false t.test k ≡ true → is_set w k ≡ true
    within zero p = nowhere p
    within (suc k) p = sym (half_set w k) ∙ t.within k p

-- 0 is taken
taken_more : (n v w m : ℕ) → is_set w 0 ≡ true → Taken n v (bit_and (w / 2) v) m → Taken (suc n) v w (suc m)
taken_more n v w m e t = record {
  test = behind true t.test;
  within = within;
  apart = behind_apart v true t.test t.apart (λ o k p. and_right (is_set (w / 2) k) (is_set v k) (both k p));
  count = count_first n (behind true t.test) ∙ omega (arith, t.count);
}
  where
    both : (k : ℕ) → t.test k ≡ true → is_set (w / 2) k && is_set v k ≡ true
    both k p = sym (set_and (w / 2) v k) ∙ t.within k p

    within : (k : ℕ) → behind true t.test k ≡ true → is_set w k ≡ true
    within zero p = e
    within (suc k) p = sym (half_set w k) ∙ and_left (is_set (w / 2) k) (is_set v k) (both k p)

pub most_taken : (n v w : ℕ) → Taken n v w (most_of n v w)
unfolding most_of count_below
most_taken zero v w = record { test = λ k. false; within = λ k p. nowhere p; apart = λ x y p. nowhere p; count = refl }
most_taken (suc n) v w = go (is_set w 0) refl (most_taken n v (bit_and (w / 2) v)) (most_taken n v (w / 2)) (dec_le (suc (most_of n v (bit_and (w / 2) v))) (most_of n v (w / 2)))
  where
    go : (b : Bool) → is_set w 0 ≡ b → Taken n v (bit_and (w / 2) v) (most_of n v (bit_and (w / 2) v)) → Taken n v (w / 2) (most_of n v (w / 2))
        → Dec (suc (most_of n v (bit_and (w / 2) v)) ≤ most_of n v (w / 2))
        → Taken (suc n) v w (cond b (max (suc (most_of n v (bit_and (w / 2) v))) (most_of n v (w / 2))) (most_of n v (w / 2)))
    go false e a r d = taken_rest n v w (most_of n v (w / 2)) r
    go true e a r (yes d) =
        let m : max (suc (most_of n v (bit_and (w / 2) v))) (most_of n v (w / 2)) ≡ most_of n v (w / 2) = omega arith in
        rw m (taken_rest n v w (most_of n v (w / 2)) r)
    go true e a r (no d) =
        let m : max (suc (most_of n v (bit_and (w / 2) v))) (most_of n v (w / 2)) ≡ suc (most_of n v (bit_and (w / 2) v)) = omega arith in
        rw m (taken_more n v w (most_of n v (bit_and (w / 2) v)) e a)

-- Tests, whatever the least number that passes

-- one that is apart counts no more than the largest clique
pub count_largest : (v n : ℕ) (f : ℕ → Bool) → v < 2 ^ 32 → Apart v f → count_below n f ≤ largest_clique v
unfolding largest_clique count_below
count_largest v zero f l a = zero-le
count_largest v (suc n) f l a = rw (count_first n f) (go (f 0) refl (count_largest v n (λ k. f (suc k)) l (apart_suc v f a)))
  where
    go : (b : Bool) → f 0 ≡ b → count_below n (λ k. f (suc k)) ≤ suc (most_of 32 v v) → cond b 1 0 + count_below n (λ k. f (suc k)) ≤ suc (most_of 32 v v)
    go true e r = omega (arith, most_most 32 n v v (λ k. f (suc k)) l (λ k h p. above_first v f a e k p) (apart_suc v f a))
    go false e r = omega arith

-- and one, of 0 and numbers up to 32, counts as many
pub record Widest (v : ℕ) : Type 0 where
  pub test : ℕ → Bool
  pub within : (k : ℕ) → test (suc k) ≡ true → is_set v k ≡ true
  pub apart : Apart v test
  pub count : count_below 33 test ≡ largest_clique v

pub widest : (v : ℕ) → Widest v
unfolding largest_clique
widest v =
    let t = most_taken 32 v v in
    record {
      test = behind true t.test;
      within = t.within;
      apart = behind_apart v true t.test t.apart (λ o. t.within);
      count = count_first 32 (behind true t.test) ∙ omega (arith, t.count);
    }
