-- Fewer than m of m places in a row are taken where fewer than m marks take one each. Assumes nothing.
use mathlib.Core.Path.{◌≡◌, refl, sym, ap, ◌∙◌}
use mathlib.Core.Bool.{Bool, true, false, cond, ◌&&◌, ◌||◌}
use Prim.Native.Nat.{ℕ, zero, suc, ◌+◌, ◌*◌, ◌/◌, ◌%◌, ◌≤◌, ◌<◌}
use native.Mathlib.Nat.{mul-le-mul_right, suc-mul, div-add-mod', le_dest}
use native.Mathlib.Decide.{dec_le}
use native.Mathlib.Omega.{arith}
use borrow.Author.Tests.{eqb-true}
use lib.Dec.{eqb}
use Rattle.words.specs.Below.{some_below, count_below}
use Rattle.words.proofs.BelowLaws.{count_none}
use Rattle.words.proofs.CountLaws.{count_or, count_one}

-- each of those that pass takes at most one
pub count_taken : (m n : ℕ) (f : ℕ → Bool) (g : ℕ → ℕ → Bool) → ((i : ℕ) → i < n → count_below m (g i) ≤ 1)
    → count_below m (λ k. some_below n (λ i. f i && g i k)) ≤ count_below n f
unfolding some_below count_below
count_taken m zero f g one = let z : count_below m (λ k. false) ≡ 0 = count_none m (λ k. false) (λ k l. refl) in omega arith
count_taken m (suc n) f g one =
    let r = count_taken m n f g (λ i l. one i (omega arith)) in
    let o = count_or m (λ k. f n && g n k) (λ k. some_below n (λ i. f i && g i k)) in
    go (f n) r o (one n (omega arith))
  where
    go : (b : Bool) → count_below m (λ k. some_below n (λ i. f i && g i k)) ≤ count_below n f
        → count_below m (λ k. b && g n k || some_below n (λ i. f i && g i k)) ≤ count_below m (λ k. b && g n k) + count_below m (λ k. some_below n (λ i. f i && g i k))
        → count_below m (g n) ≤ 1
        → count_below m (λ k. b && g n k || some_below n (λ i. f i && g i k)) ≤ cond b 1 0 + count_below n f
    go true r o one = omega arith
    go false r o one = omega (arith, r)

-- Remainders

-- two numbers less than m apart have different remainders modulo m
pub mod_apart : (a d m : ℕ) → 0 < d → d < m → (a + d) % m ≡ a % m → ⊥
mod_apart a d m h l e = go (dec_le ((a + d) / m) (a / m))
  where
    one : a / m * m + a % m ≡ a
    one = div-add-mod' a m

    two : (a + d) / m * m + (a + d) % m ≡ a + d
    two = div-add-mod' (a + d) m

    go : Dec ((a + d) / m ≤ a / m) → ⊥
    go (yes le) = let p : (a + d) / m * m ≤ a / m * m = mul-le-mul_right m le in omega (arith, one, two)
    go (no n) = let p : suc (a / m) * m ≤ (a + d) / m * m = mul-le-mul_right m (omega arith) in omega (arith, one, two, suc-mul (a / m) m)

-- of m places in a row at most one has a given remainder
pub one_remainder : (m start x : ℕ) → count_below m (λ k. eqb x ((start + k) % m)) ≤ 1
one_remainder m start x =
    count_one m (λ k. eqb x ((start + k) % m))
    (λ i j h l p q.
    let d : (k : ℕ) × (i + k ≡ j) = le_dest (omega arith) in
    let e : start + i + d.0 ≡ start + j = omega (arith, d.1) in
    mod_apart (start + i) d.0 m (omega (arith, d.1)) (omega (arith, d.1))
    (ap (λ n. n % m) e ∙ sym (eqb-true x ((start + j) % m) q) ∙ eqb-true x ((start + i) % m) p))
