-- Laws of single bits: of an OR, an AND, a shift, a power of two, of a word with one bit set or cleared; words with the same bits. Assumes nothing.
use mathlib.Core.Path.{◌≡◌, refl, sym, ap, ◌∙◌, subst}
use mathlib.Core.Bool.{Bool, true, false, cond, ◌&&◌, ◌||◌}
use mathlib.Core.Logic.{◌↔◌}
use Prim.Native.Nat.{ℕ, zero, suc, ◌+◌, ◌-◌, ◌*◌, ◌/◌, ◌%◌, ◌^◌, ◌≤◌, ◌<◌, min, max}
use native.Mathlib.Nat.{div-eq_of_lt, div-eq_of_lt-le, lt_of_lt_of_le, zero-div, div-one, add-zero, one-mul}
use native.Mathlib.Decide.{dec_lt, ℕ_discrete}
use native.Mathlib.Omega.{arith}
use lib.Dec.{eqb, ltb, lit<}
use lib.Bits.{bit_and, bit_or, bit_xor, or_shr, or_step, or_lt, and_shr, and_step, and_le_l, xor_shr, xor_mod, xor_lt, xor_zero_r}
use lib.Pow.{shr-shr, pow_mono, pow-lt, pow-add, shl-shr, shl_exact}
use lib.Arith.{digits_mod}
use borrow.Author.Tests.{eqb-false, eq-eqb, lt-ltb}
use Rattle.words.specs.Bits.{bit, is_set, set_bit, clear_bit}
use Rattle.words.proofs.Tests.{nowhere, and_left, and_right, and_true, or_true_right}

pub bit_small : (w k : ℕ) → bit w k < 2
bit_small w k = omega arith

-- a bit that is not 0 is 1
pub set_not_zero : (w k : ℕ) → (bit w k ≡ 0 → ⊥) → is_set w k ≡ true
set_not_zero w k h = eq-eqb (bit w k) 1 (omega (arith, bit_small w k))

pub unset_zero : (w k : ℕ) → is_set w k ≡ false → bit w k ≡ 0
unset_zero w k e = let n = eqb-false (bit w k) 1 e in omega (arith, bit_small w k)

pub zero_unset : (w k : ℕ) → bit w k ≡ 0 → is_set w k ≡ false
zero_unset w k e = ap (λ n. eqb n 1) e

-- the bit as a number
pub set_value : (w k : ℕ) → cond (is_set w k) 1 0 ≡ bit w k
set_value w k = go (bit w k) (bit_small w k)
  where
    go : (x : ℕ) → x < 2 → cond (eqb x 1) 1 0 ≡ x
    go zero h = refl
    go (suc zero) h = refl
    go (suc (suc x)) h = absurd (omega arith)

pub bit_of_zero : (k : ℕ) → bit 0 k ≡ 0
bit_of_zero k = ap (λ n. n % 2) (zero-div (2 ^ k))

pub bit_zero : (w : ℕ) → bit w 0 ≡ w % 2
bit_zero w = ap (λ n. n % 2) (div-one w)

-- Shift, OR, AND

pub bit_shr : (w t k : ℕ) → bit (w / 2 ^ t) k ≡ bit w (t + k)
bit_shr w t k = ap (λ (y : ℕ). y % 2) (shr-shr w t k)

odd_or : (a b : ℕ) → bit_or a b % 2 ≡ max (a % 2) (b % 2)
odd_or a b = ap (λ (y : ℕ). y % 2) (or_step a b) ∙ digits_mod (bit_or (a / 2) (b / 2)) (omega arith)

odd_and : (a b : ℕ) → bit_and a b % 2 ≡ min (a % 2) (b % 2)
odd_and a b = ap (λ (y : ℕ). y % 2) (and_step a b) ∙ digits_mod (bit_and (a / 2) (b / 2)) (omega arith)

pub bit_or_lem : (a b k : ℕ) → bit (bit_or a b) k ≡ max (bit a k) (bit b k)
bit_or_lem a b k = ap (λ (y : ℕ). y % 2) (or_shr a b k) ∙ odd_or (a / 2 ^ k) (b / 2 ^ k)

pub bit_and_lem : (a b k : ℕ) → bit (bit_and a b) k ≡ min (bit a k) (bit b k)
bit_and_lem a b k = ap (λ (y : ℕ). y % 2) (and_shr a b k) ∙ odd_and (a / 2 ^ k) (b / 2 ^ k)

pub set_or : (a b k : ℕ) → is_set (bit_or a b) k ≡ is_set a k || is_set b k
set_or a b k = ap (λ n. eqb n 1) (bit_or_lem a b k) ∙ go (bit a k) (bit b k) (bit_small a k) (bit_small b k)
  where
    go : (x y : ℕ) → x < 2 → y < 2 → eqb (max x y) 1 ≡ eqb x 1 || eqb y 1
    go zero zero g h = refl
    go zero (suc zero) g h = refl
    go (suc zero) zero g h = refl
    go (suc zero) (suc zero) g h = refl
    go zero (suc (suc y)) g h = absurd (omega arith)
    go (suc zero) (suc (suc y)) g h = absurd (omega arith)
    go (suc (suc x)) y g h = absurd (omega arith)

pub set_and : (a b k : ℕ) → is_set (bit_and a b) k ≡ is_set a k && is_set b k
set_and a b k = ap (λ n. eqb n 1) (bit_and_lem a b k) ∙ go (bit a k) (bit b k) (bit_small a k) (bit_small b k)
  where
    go : (x y : ℕ) → x < 2 → y < 2 → eqb (min x y) 1 ≡ eqb x 1 && eqb y 1
    go zero zero g h = refl
    go zero (suc zero) g h = refl
    go (suc zero) zero g h = refl
    go (suc zero) (suc zero) g h = refl
    go zero (suc (suc y)) g h = absurd (omega arith)
    go (suc zero) (suc (suc y)) g h = absurd (omega arith)
    go (suc (suc x)) y g h = absurd (omega arith)

-- Bits of a word of n bits

pub bit_above : (w n k : ℕ) → w < 2 ^ n → n ≤ k → bit w k ≡ 0
bit_above w n k h l = ap (λ (y : ℕ). y % 2) (div-eq_of_lt (lt_of_lt_of_le h (pow_mono l)))

pub set_below : (w n k : ℕ) → w < 2 ^ n → is_set w k ≡ true → k < n
set_below w n k h e = go (dec_lt k n)
  where
    go : Dec (k < n) → k < n
    go (yes p) = p
    go (no p) = nowhere (sym (zero_unset w k (bit_above w n k h (omega arith))) ∙ e)

-- a word of m + n bits that is not below 2 ^ m has a 1 at m or above
pub record HighBit (w m n : ℕ) : Type 0 where
  pub at : ℕ
  pub least : m ≤ at
  pub most : at < n
  pub set : is_set w at ≡ true

pub high_bit : (n m w : ℕ) → 2 ^ m ≤ w → w < 2 ^ (m + n) → HighBit w m (m + n)
high_bit zero m w a b = let c = subst (λ (k : ℕ). w < 2 ^ k) (add-zero m) b in absurd (omega arith)
high_bit (suc n) m w a b = go (λ h. high_bit n m w a h) (dec_lt w (2 ^ (m + n)))
  where
    double : 2 ^ (m + suc n) ≡ 2 ^ (m + n) * 2
    double = ap (λ k. 2 ^ k) (omega arith) ∙ pow-add 2 (m + n) 1

    go : (w < 2 ^ (m + n) → HighBit w m (m + n)) → Dec (w < 2 ^ (m + n)) → HighBit w m (m + suc n)
    go rest (yes h) =
        let r = rest h in
        record { at = r.at; least = r.least; most = omega arith; set = r.set }
    go rest (no h) =
        let e : w / 2 ^ (m + n) ≡ 1 = div-eq_of_lt-le (2 ^ (m + n)) (omega arith) (omega (arith, double)) in
        record { at = m + n; least = omega arith; most = omega arith; set = ap (λ k. eqb (k % 2) 1) e }

-- a word other than 0 has a 1
pub some_bit : (n w : ℕ) → w < 2 ^ n → (w ≡ 0 → ⊥) → HighBit w 0 n
some_bit n w h ne =
    let e : 0 + n ≡ n = omega arith in
    rw e at (high_bit n 0 w (omega arith) (rw e h))

-- the AND of two words is 0 exactly when no index has both
pub and_zero : (n a b : ℕ) → a < 2 ^ n → (bit_and a b ≡ 0) ↔ ((k : ℕ) → is_set a k ≡ true → is_set b k ≡ true → ⊥)
and_zero n a b h = (there, back)
  where
    there : bit_and a b ≡ 0 → (k : ℕ) → is_set a k ≡ true → is_set b k ≡ true → ⊥
    there e k p q = nowhere (sym (zero_unset 0 k (bit_of_zero k)) ∙ ap (λ w. is_set w k) (sym e) ∙ set_and a b k ∙ and_true p q)

    back : ((k : ℕ) → is_set a k ≡ true → is_set b k ≡ true → ⊥) → bit_and a b ≡ 0
    back f = go (ℕ_discrete (bit_and a b) 0)
      where
        go : Dec (bit_and a b ≡ 0) → bit_and a b ≡ 0
        go (yes e) = e
        go (no ne) =
            let r = some_bit n (bit_and a b) (omega (arith, and_le_l a b)) ne in
            let s : is_set a r.at && is_set b r.at ≡ true = sym (set_and a b r.at) ∙ r.set in
            absurd (f r.at (and_left (is_set a r.at) (is_set b r.at) s) (and_right (is_set a r.at) (is_set b r.at) s))

-- Powers of two

pub shifted_one : (k w : ℕ) → k < w → (1 * 2 ^ k) % 2 ^ w ≡ 2 ^ k
shifted_one k w h = shl_exact 1 k w (lit< tt) (omega arith) ∙ one-mul (2 ^ k)

pub pow_bit : (k : ℕ) → bit (2 ^ k) k ≡ 1
pow_bit k = ap (λ n. n % 2) (ap (λ n. n / 2 ^ k) (sym (one-mul (2 ^ k))) ∙ shl-shr 1 k)

pow_bit_below : (j d : ℕ) → bit (2 ^ (d + 1 + j)) j ≡ 0
pow_bit_below j d =
    let e : 2 ^ (d + 1 + j) / 2 ^ j ≡ 2 ^ d * 2 = ap (λ n. n / 2 ^ j) (pow-add 2 (d + 1) j) ∙ shl-shr (2 ^ (d + 1)) j ∙ pow-add 2 d 1 in
    ap (λ n. n % 2) e ∙ omega arith

pub pow_bit_other : (j k : ℕ) → (j ≡ k → ⊥) → bit (2 ^ k) j ≡ 0
pow_bit_other j k ne = go (dec_lt k j)
  where
    go : Dec (k < j) → bit (2 ^ k) j ≡ 0
    go (yes h) = ap (λ n. n % 2) (div-eq_of_lt (pow-lt h))
    go (no n) =
        let e : k - j - 1 + 1 + j ≡ k = omega arith in
        subst (λ (m : ℕ). bit (2 ^ m) j ≡ 0) e (pow_bit_below j (k - j - 1))

-- A word with one bit changed

-- word w is word v but for bit k, which passes the test b
pub record Changed (v w k : ℕ) (b : Bool) : Type 0 where
  pub at : is_set w k ≡ b
  pub off : (j : ℕ) → (j ≡ k → ⊥) → is_set w j ≡ is_set v j

or_changed : (v k : ℕ) → Changed v (bit_or v (2 ^ k)) k true
or_changed v k = record {
  at = set_or v (2 ^ k) k ∙ or_true_right (is_set v k) (is_set (2 ^ k) k) (eq-eqb (bit (2 ^ k) k) 1 (pow_bit k));
  off = λ j ne. let e : max (bit v j) (bit (2 ^ k) j) ≡ bit v j = omega (arith, pow_bit_other j k ne) in ap (λ n. eqb n 1) (bit_or_lem v (2 ^ k) j ∙ e);
}

bit_xor_lem : (a b k : ℕ) → bit (bit_xor a b) k ≡ bit_xor (bit a k) (bit b k)
bit_xor_lem a b k = ap (λ (y : ℕ). y % 2) (xor_shr a b k) ∙ xor_mod (a / 2 ^ k) (b / 2 ^ k) 1

cut_changed : (v k : ℕ) → Changed v (bit_xor v (bit_and v (2 ^ k))) k false
cut_changed v k = record {
  at = ap (λ n. eqb n 1) (bit_xor_lem v (bit_and v (2 ^ k)) k ∙ ap (bit_xor (bit v k)) (bit_and_lem v (2 ^ k) k) ∙ here (bit v k) (bit_small v k) (bit (2 ^ k) k) (pow_bit k));
  off = λ j ne. ap (λ n. eqb n 1) (bit_xor_lem v (bit_and v (2 ^ k)) j ∙ ap (bit_xor (bit v j)) (bit_and_lem v (2 ^ k) j ∙ omega (arith, pow_bit_other j k ne)) ∙ xor_zero_r (bit v j));
}
  where
    here : (x : ℕ) → x < 2 → (y : ℕ) → y ≡ 1 → bit_xor x (min x y) ≡ 0
    here x h y e = rw e (go x h)
      where
        go : (x : ℕ) → x < 2 → bit_xor x (min x 1) ≡ 0
        go zero h = refl
        go (suc zero) h = refl
        go (suc (suc x)) h = absurd (omega arith)

pub set_changed : (v k : ℕ) → k < 32 → Changed v (set_bit v k) k true
unfolding set_bit
set_changed v k h = rw (lt-ltb k 32 h) (or_changed v k)

pub clear_changed : (v k : ℕ) → k < 32 → Changed v (clear_bit v k) k false
unfolding clear_bit
clear_changed v k h = rw (lt-ltb k 32 h) (cut_changed v k)

-- a word of n bits stays one when a bit below n is set or cleared
pub set_lt : (n v k : ℕ) → k < n → v < 2 ^ n → set_bit v k < 2 ^ n
unfolding set_bit
set_lt n v k h l = go (ltb k 32)
  where
    go : (b : Bool) → cond b (bit_or v (2 ^ k)) v < 2 ^ n
    go true = or_lt n v (2 ^ k) l (pow-lt h)
    go false = l

pub clear_lt : (n v k : ℕ) → v < 2 ^ n → clear_bit v k < 2 ^ n
unfolding clear_bit
clear_lt n v k l = go (ltb k 32)
  where
    go : (b : Bool) → cond b (bit_xor v (bit_and v (2 ^ k))) v < 2 ^ n
    go true = xor_lt n v (bit_and v (2 ^ k)) l (omega (arith, and_le_l v (2 ^ k)))
    go false = l

-- Words with the same bits are the same

half_bit : (w j : ℕ) → bit (w / 2) j ≡ bit w (suc j)
half_bit w j = ap (λ n. n % 2) (shr-shr w 1 j ∙ ap (λ k. w / 2 ^ k) (omega arith))

same_digit : (x y : ℕ) → x < 2 → y < 2 → eqb x 1 ≡ eqb y 1 → x ≡ y
same_digit zero zero a b e = refl
same_digit zero (suc zero) a b e = nowhere e
same_digit zero (suc (suc y)) a b e = absurd (omega arith)
same_digit (suc zero) zero a b e = nowhere (sym e)
same_digit (suc zero) (suc zero) a b e = refl
same_digit (suc zero) (suc (suc y)) a b e = absurd (omega arith)
same_digit (suc (suc x)) y a b e = absurd (omega arith)

pub same_bits : (n w v : ℕ) → w < 2 ^ n → v < 2 ^ n → ((j : ℕ) → j < n → is_set w j ≡ is_set v j) → w ≡ v
same_bits zero w v a b h = omega arith
same_bits (suc n) w v a b h =
    let d : 2 ^ suc n ≡ 2 ^ n * 2 = ap (λ k. 2 ^ k) (omega arith) ∙ pow-add 2 n 1 in
    let t = same_bits n (w / 2) (v / 2) (omega (arith, d)) (omega (arith, d))
    (λ j l. ap (λ k. eqb k 1) (half_bit w j) ∙ h (suc j) (omega arith) ∙ ap (λ k. eqb k 1) (sym (half_bit v j))) in
    let e : w % 2 ≡ v % 2 = same_digit (w % 2) (v % 2) (omega arith) (omega arith)
    (sym (ap (λ k. eqb k 1) (bit_zero w)) ∙ h zero (omega arith) ∙ ap (λ k. eqb k 1) (bit_zero v)) in
    omega arith
