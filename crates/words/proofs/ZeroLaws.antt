-- The next 0 of a word: the ones from an index on are the zeros that a carry leaves. Assumes nothing.
use mathlib.Core.Path.{◌≡◌, refl, sym, ap, ◌∙◌}
use mathlib.Core.Logic.{◌⊎◌, inl, inr}
use mathlib.Core.Bool.{Bool, true, false, cond, not}
use Prim.Native.Nat.{ℕ, zero, suc, ◌+◌, ◌-◌, ◌/◌, ◌%◌, ◌^◌, ◌≤◌, ◌<◌, max}
use native.Mathlib.Nat.{not-suc-le-zero, le_of_suc-le-suc, div-eq_of_lt, add-zero}
use native.Mathlib.Decide.{dec_lt}
use native.Mathlib.Numerals.{add-one}
use native.Mathlib.Omega.{arith}
use borrow.Author.Tests.{eq-eqb, ne_eqb}
use lib.Count.{count_trailing_zeros, under}
use lib.Pow.{shr-shr}
use Rattle.words.specs.Bits.{is_set, zero_from}
use Rattle.words.specs.Below.{least_from}
use Rattle.words.proofs.BitLaws.{bit_above, zero_unset}
use Rattle.words.proofs.BelowLaws.{least_first, least_skips, least_le}

pub zero_beyond : (w k : ℕ) → 32 ≤ k → k ≡ zero_from w k
unfolding zero_from least_from
zero_beyond w k h = let e : 32 - k ≡ 0 = omega arith in rw e

parity : (x : ℕ) → (x % 2 ≡ 0) ⊎ (x % 2 ≡ 1)
parity x = go (x % 2) (omega arith)
  where
    go : (r : ℕ) → r < 2 → (r ≡ 0) ⊎ (r ≡ 1)
    go zero h = inl refl
    go (suc zero) h = inr refl
    go (suc (suc r)) h = absurd (omega arith)

pub carry_zeros : (n k m w : ℕ) → w < 2 ^ (m + n) → n < k
    → m + count_trailing_zeros k (w / 2 ^ m + 1) ≡ least_from n m (λ i. not (is_set w i))
unfolding count_trailing_zeros least_from
carry_zeros n zero m w h l = absurd (not-suc-le-zero l)
carry_zeros zero (suc k) m w h l =
    let z : w / 2 ^ m ≡ 0 = div-eq_of_lt (rw (add-zero m) at h) in
    rw z (add-zero m)
carry_zeros (suc n) (suc k) m w h l =
    let s : m + suc n ≡ suc m + n = omega arith in
    go (parity (w / 2 ^ m)) (carry_zeros n k (suc m) w (rw s at h) (le_of_suc-le-suc l))
  where
    next : w / 2 ^ m / 2 ≡ w / 2 ^ suc m
    next = shr-shr w m 1 ∙ ap (λ j. w / 2 ^ j) (add-one m)

    go : (w / 2 ^ m % 2 ≡ 0) ⊎ (w / 2 ^ m % 2 ≡ 1)
        → suc m + count_trailing_zeros k (w / 2 ^ suc m + 1) ≡ least_from n (suc m) (λ i. not (is_set w i))
        → m + under ((w / 2 ^ m + 1) % 2) (count_trailing_zeros k ((w / 2 ^ m + 1) / 2)) ≡ cond (not (is_set w m)) m (least_from n (suc m) (λ i. not (is_set w i)))
    go (inl e) rest =
        let odd : (w / 2 ^ m + 1) % 2 ≡ 1 = omega arith in
        let off : is_set w m ≡ false = ne_eqb (w / 2 ^ m % 2) 1 (λ q. absurd (omega arith)) in
        rw (odd, off) (add-zero m)
    go (inr e) rest =
        let even : (w / 2 ^ m + 1) % 2 ≡ 0 = omega arith in
        let on : is_set w m ≡ true = eq-eqb (w / 2 ^ m % 2) 1 e in
        let half : (w / 2 ^ m + 1) / 2 ≡ w / 2 ^ suc m + 1 = omega (arith, next) in
        rw (even, on, half) (omega (arith, rest))

pub zero_carried : (w k : ℕ) → w < 2 ^ 32 → k < 32 → k + count_trailing_zeros 64 (w / 2 ^ k + 1) ≡ zero_from w k
unfolding zero_from
zero_carried w k h l =
    let e : k + (32 - k) ≡ 32 = omega arith in
    carry_zeros (32 - k) 64 k w (rw e h) (omega arith)

-- What the next 0 means

pub zero_least : (w k : ℕ) → k ≤ zero_from w k
unfolding zero_from
zero_least w k = least_first (32 - k) k (λ i. not (is_set w i))

-- all before it are 1
pub zero_skips : (w k i : ℕ) → k ≤ i → i < zero_from w k → is_set w i ≡ true
unfolding zero_from
zero_skips w k i h l = not_false (is_set w i) (least_skips (32 - k) k (λ i. not (is_set w i)) i h l)
  where
    not_false : (b : Bool) → not b ≡ false → b ≡ true
    not_false true e = refl
    not_false false e = sym e

-- a word of n bits has only zeros from n on
pub zero_most : (w n k : ℕ) → w < 2 ^ n → zero_from w k ≤ max k n
unfolding zero_from
zero_most w n k h =
    least_le (32 - k) k (λ i. not (is_set w i)) (max k n) (omega arith)
    (ap not (zero_unset w (max k n) (bit_above w n (max k n) h (omega arith))))

-- the test passes at the least number that passes it, if that is one of those tried
least_inside : (n m : ℕ) (f : ℕ → Bool) → least_from n m f < m + n → f (least_from n m f) ≡ true
unfolding least_from
least_inside zero m f h = absurd (omega arith)
least_inside (suc n) m f h = go (f m) refl h (λ l. least_inside n (suc m) f l)
  where
    go : (b : Bool) → f m ≡ b → cond b m (least_from n (suc m) f) < m + suc n
        → (least_from n (suc m) f < suc m + n → f (least_from n (suc m) f) ≡ true) → f (cond b m (least_from n (suc m) f)) ≡ true
    go true e l rest = e
    go false e l rest = rest (omega arith)

-- and it is 0
pub zero_clear : (w k : ℕ) → w < 2 ^ 32 → is_set w (zero_from w k) ≡ false
unfolding zero_from
zero_clear w k h = go (dec_lt (least_from (32 - k) k (λ i. not (is_set w i))) 32)
  where
    not_true : (b : Bool) → not b ≡ true → b ≡ false
    not_true true e = sym e
    not_true false e = refl

    go : Dec (least_from (32 - k) k (λ i. not (is_set w i)) < 32) → is_set w (least_from (32 - k) k (λ i. not (is_set w i))) ≡ false
    go (yes l) =
        not_true (is_set w (least_from (32 - k) k (λ i. not (is_set w i)))) (least_inside (32 - k) k (λ i. not (is_set w i))
        (omega (arith, least_first (32 - k) k (λ i. not (is_set w i)))))
    go (no l) = zero_unset w _ (bit_above w 32 _ h (omega arith))
