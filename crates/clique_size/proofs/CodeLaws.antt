-- The steps of the calculation as the code takes them. Assumes nothing.
use mathlib.Core.Path.{◌≡◌, refl, sym, ap, ap₂, ◌∙◌}
use mathlib.Core.Bool.{cond}
use Prim.Native.Nat.{ℕ, zero, suc, ◌+◌, ◌-◌, ◌/◌, ◌%◌, ◌^◌, ◌≤◌, ◌<◌, max}
use native.Mathlib.Nat.{mod-eq_of_lt}
use native.Mathlib.Omega.{arith}
use lib.Bits.{bit_and, and_le_l}
use lib.Count.{count_trailing_zeros, trailing_le, under}
use lib.Dec.{eqb}
use lib.Pow.{shr-shr, shr_le}
use Rattle.words.specs.Bits.{is_set}
use Rattle.words.specs.Below.{count_below}
use Rattle.words.proofs.BitLaws.{bit_zero, bit_of_zero, zero_unset}
use Rattle.words.proofs.BelowLaws.{count_none, count_most}
use Rattle.words.proofs.CountLaws.{count_le}
use Rattle.clique_size.specs.Largest.{most_of}
use Rattle.clique_size.proofs.MostLaws.{half_lt, and_half_lt, most_taken}

-- no more are taken than there are
pub most_count : (n v w : ℕ) → most_of n v w ≤ count_below n (is_set w)
most_count n v w = let t = most_taken n v w in omega (arith, t.count, count_le n t.test (is_set w) (λ k l. t.within k))

-- a number more than the word has bits changes nothing
most_stable : (n v w : ℕ) → w < 2 ^ n → most_of (suc n) v w ≡ most_of n v w
unfolding most_of
most_stable zero v w h = let z : w ≡ 0 = omega arith in rw z
most_stable (suc n) v w h =
    ap₂ (λ (a b : ℕ). cond (is_set w 0) (max (suc a) b) b)
    (most_stable n v (bit_and (w / 2) v) (and_half_lt n v w h)) (most_stable n v (w / 2) (half_lt n w h))

-- the number 0 is taken or left out, or is none of them
pair : ℕ → ℕ → ℕ → ℕ
pair n v x = max (suc (most_of n v (bit_and x v))) (most_of n v x)

most_odd : (n v w : ℕ) → w % 2 ≡ 1 → most_of (suc n) v w ≡ pair n v (w / 2)
unfolding most_of pair
most_odd n v w e =
    ap (λ x. cond (eqb x 1) (max (suc (most_of n v (bit_and (w / 2) v))) (most_of n v (w / 2))) (most_of n v (w / 2))) (bit_zero w ∙ e)

most_even : (n v w : ℕ) → w % 2 ≡ 0 → most_of (suc n) v w ≡ most_of n v (w / 2)
unfolding most_of
most_even n v w e =
    ap (λ x. cond (eqb x 1) (max (suc (most_of n v (bit_and (w / 2) v))) (most_of n v (w / 2))) (most_of n v (w / 2))) (bit_zero w ∙ e)

pair_stable : (n v x : ℕ) → x < 2 ^ n → pair (suc n) v x ≡ pair n v x
unfolding pair
pair_stable n v x h = ap₂ (λ (a b : ℕ). max (suc a) b) (most_stable n v (bit_and x v) (omega (arith, and_le_l x v))) (most_stable n v x h)

-- the lowest of the numbers is taken or left out
most_lowest : (n v w : ℕ) → w < 2 ^ n → 0 < w → most_of n v w ≡ pair n v (w / 2 ^ suc (count_trailing_zeros n w))
unfolding count_trailing_zeros
most_lowest zero v w h p = absurd (omega arith)
most_lowest (suc n) v w h p = go (w % 2) refl (most_lowest n v (w / 2) (half_lt n w h))
  where
    small : (k : ℕ) → w / 2 / 2 ^ k < 2 ^ n
    small k = omega (arith, shr_le (w / 2) k, half_lt n w h)

    go : (b : ℕ) → w % 2 ≡ b → (0 < w / 2 → most_of n v (w / 2) ≡ pair n v (w / 2 / 2 ^ suc (count_trailing_zeros n (w / 2))))
        → most_of (suc n) v w ≡ pair (suc n) v (w / 2 ^ suc (under b (count_trailing_zeros n (w / 2))))
    go zero e r =
        let z : ℕ = count_trailing_zeros n (w / 2) in
        let sum : 1 + suc z ≡ suc (suc z) = omega arith in
        most_even n v w e ∙ r (omega arith) ∙ sym (pair_stable n v (w / 2 / 2 ^ suc z) (small (suc z)))
        ∙ ap (pair (suc n) v) (shr-shr w 1 (suc z) ∙ ap (λ k. w / 2 ^ k) sum)
    go (suc zero) e r = most_odd n v w e ∙ sym (pair_stable n v (w / 2) (half_lt n w h))
    go (suc (suc b)) e r = absurd (omega arith)

-- What the functions answer

-- above the lowest
pub shift_lowest : (w : ℕ) → w / 2 ^ ((count_trailing_zeros 32 w + 1) % 64) ≡ w / 2 ^ suc (count_trailing_zeros 32 w)
shift_lowest w =
    let l = trailing_le 32 w in
    let m : (count_trailing_zeros 32 w + 1) % 64 ≡ count_trailing_zeros 32 w + 1 = mod-eq_of_lt (omega arith) in
    let s : count_trailing_zeros 32 w + 1 ≡ suc (count_trailing_zeros 32 w) = omega arith in
    ap (λ k. w / 2 ^ k) (m ∙ s)

-- no more than `least`
pub most_pruned : (v w least n : ℕ) → n ≡ count_below 32 (is_set w) → n ≤ least → least ≡ max least (most_of 32 v w)
most_pruned v w least n e h = omega (arith, most_count 32 v w)

-- more than `least` is some
pub some_number : (w least n : ℕ) → n ≡ count_below 32 (is_set w) → least < n → 0 < w
some_number w least n e h = go w refl
  where
    go : (x : ℕ) → w ≡ x → 0 < x
    go zero z = absurd (omega (arith, count_none 32 (is_set w) (λ k l. rw z (zero_unset 0 k (bit_of_zero k)))))
    go (suc x) z = omega arith

-- the numbers above the lowest are fewer
pub above_falls : (w x t : ℕ) → 0 < w → x ≡ w / 2 ^ suc (count_trailing_zeros 32 w) → w ≡ t → x < t
above_falls w x t h e m =
    let z : ℕ = count_trailing_zeros 32 w in
    let sum : 1 + z ≡ suc z = omega arith in
    let same : w / 2 / 2 ^ z ≡ w / 2 ^ suc z = shr-shr w 1 z ∙ ap (λ k. w / 2 ^ k) sum in
    omega (arith, shr_le (w / 2) z)

pub and_falls : (v w x t : ℕ) → 0 < w → x ≡ w / 2 ^ suc (count_trailing_zeros 32 w) → w ≡ t → bit_and x v < t
and_falls v w x t h e m = omega (arith, above_falls w x t h e m, and_le_l x v)

-- with the lowest, and then without
pub most_turn : (v w least x o a b : ℕ) → w < 2 ^ 32 → 0 < w → x ≡ w / 2 ^ suc (count_trailing_zeros 32 w) → o ≡ least - 1
    → a ≡ max o (most_of 32 v (bit_and x v)) → b ≡ max (a + 1) (most_of 32 v x) → b ≡ max least (most_of 32 v w)
unfolding pair
most_turn v w least x o a b l h e d p q = omega (arith, rw (← e) at (most_lowest 32 v w l h))

-- what is found fits a word
pub most_fits : (v w o a : ℕ) → o < 2 ^ 32 - 1 → a ≡ max o (most_of 32 v w) → a + 1 < 2 ^ 32
most_fits v w o a h e = omega (arith, most_count 32 v w, count_most 32 (is_set w))
