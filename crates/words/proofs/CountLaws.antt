-- How many of the numbers below a bound pass a test: of two tests, of a longer row, where one passes, where two do, where not all do. Assumes nothing.
use mathlib.Core.Path.{◌≡◌, refl, sym, ap, ◌∙◌}
use mathlib.Core.Logic.{◌⊎◌, inl, inr, ⊎_elim}
use mathlib.Core.Bool.{Bool, true, false, cond, not, ◌||◌}
use Prim.Native.Nat.{ℕ, zero, suc, ◌+◌, ◌≤◌, ◌<◌}
use native.Mathlib.Nat.{le_of_suc-le-suc, eq-or-lt_of_le}
use native.Mathlib.Omega.{arith}
use Rattle.words.specs.Below.{count_below}
use Rattle.words.proofs.Tests.{nowhere, not_passed}
use Rattle.words.proofs.BelowLaws.{Passes, count_none}

-- a test that passes where another does
pub count_le : (n : ℕ) (f h : ℕ → Bool) → ((k : ℕ) → k < n → f k ≡ true → h k ≡ true) → count_below n f ≤ count_below n h
unfolding count_below
count_le zero f h e = omega arith
count_le (suc n) f h e = go (f n) (h n) (e n (omega arith)) (count_le n f h (λ k l. e k (omega arith)))
  where
    go : (a b : Bool) → (a ≡ true → b ≡ true) → count_below n f ≤ count_below n h → cond a 1 0 + count_below n f ≤ cond b 1 0 + count_below n h
    go true true i l = omega arith
    go true false i l = nowhere (i refl)
    go false true i l = omega arith
    go false false i l = omega arith

pub count_longer : (k n : ℕ) (f : ℕ → Bool) → k ≤ n → count_below k f ≤ count_below n f
unfolding count_below
count_longer k zero f h = let e : k ≡ 0 = omega arith in rw e (omega arith)
count_longer k (suc n) f h = ⊎_elim (λ e. rw e (omega arith)) (λ o. let r = count_longer k n f (le_of_suc-le-suc o) in omega arith) (eq-or-lt_of_le h)

pub count_or : (n : ℕ) (f h : ℕ → Bool) → count_below n (λ k. f k || h k) ≤ count_below n f + count_below n h
unfolding count_below
count_or zero f h = omega arith
count_or (suc n) f h = go (f n) (h n) (count_or n f h)
  where
    go : (a b : Bool) → count_below n (λ k. f k || h k) ≤ count_below n f + count_below n h
        → cond (a || b) 1 0 + count_below n (λ k. f k || h k) ≤ cond a 1 0 + count_below n f + (cond b 1 0 + count_below n h)
    go true true l = omega arith
    go true false l = omega arith
    go false true l = omega arith
    go false false l = omega arith

-- no two pass
pub count_one : (n : ℕ) (f : ℕ → Bool) → ((i j : ℕ) → i < j → j < n → f i ≡ true → f j ≡ true → ⊥) → count_below n f ≤ 1
unfolding count_below
count_one zero f e = omega arith
count_one (suc n) f e = go (f n) refl (count_one n f (λ i j h l. e i j h (omega arith)))
  where
    go : (b : Bool) → f n ≡ b → count_below n f ≤ 1 → cond b 1 0 + count_below n f ≤ 1
    go true p r =
        let none : count_below n f ≡ 0 = count_none n f (λ k l. not_passed (f k) (λ q. e k n l (omega arith) q p)) in
        omega arith
    go false p r = omega arith

-- fewer than all pass
pub some_left : (n : ℕ) (f : ℕ → Bool) → count_below n f < n → Passes n (λ k. not (f k))
unfolding count_below
some_left zero f h = absurd (omega arith)
some_left (suc n) f h = go (f n) refl h (some_left n f)
  where
    go : (b : Bool) → f n ≡ b → cond b 1 0 + count_below n f < suc n → (count_below n f < n → Passes n (λ k. not (f k))) → Passes (suc n) (λ k. not (f k))
    go true e l r = let p = r (omega arith) in record { at = p.at; inside = omega (arith, p.inside); passed = p.passed }
    go false e l r = record { at = n; inside = omega arith; passed = ap not e }

-- one passes
pub count_some : (n : ℕ) (f : ℕ → Bool) (i : ℕ) → i < n → f i ≡ true → 1 ≤ count_below n f
unfolding count_below
count_some zero f i h p = absurd (omega arith)
count_some (suc n) f i h p = pick (eq-or-lt_of_le (le_of_suc-le-suc h)) (count_some n f i)
  where
    pick : (i ≡ n) ⊎ (i < n) → (i < n → f i ≡ true → 1 ≤ count_below n f) → 1 ≤ cond (f n) 1 0 + count_below n f
    pick (inl e) r = let one : ◌≡◌ {A = ℕ} (cond (f n) 1 0) 1 = ap (λ b. cond b 1 0) (ap f (sym e) ∙ p) in omega arith
    pick (inr o) r = omega (arith, r o p)

-- two pass
pub count_two : (n : ℕ) (f : ℕ → Bool) (i j : ℕ) → i < j → j < n → f i ≡ true → f j ≡ true → 2 ≤ count_below n f
unfolding count_below
count_two zero f i j h l p q = absurd (omega arith)
count_two (suc n) f i j h l p q = pick (eq-or-lt_of_le (le_of_suc-le-suc l)) (λ o. count_two n f i j h o p q)
  where
    pick : (j ≡ n) ⊎ (j < n) → (j < n → 2 ≤ count_below n f) → 2 ≤ cond (f n) 1 0 + count_below n f
    pick (inl e) r =
        let one : ◌≡◌ {A = ℕ} (cond (f n) 1 0) 1 = ap (λ b. cond b 1 0) (ap f (sym e) ∙ q) in
        omega (arith, count_some n f i (omega arith) p)
    pick (inr o) r = omega (arith, r o)
