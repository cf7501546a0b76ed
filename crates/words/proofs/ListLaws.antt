-- A list made of a value for each number: how long it is and what stands where. Assumes nothing.
use mathlib.Core.Path.{◌≡◌, refl, ap₂, ◌∙◌}
use mathlib.Core.Logic.{◌⊎◌, inl, inr}
use mathlib.Core.List.{List, [], ◌∷◌, ◌++◌}
use Prim.Native.Nat.{ℕ, zero, suc, ◌<◌}
use native.Mathlib.Nat.{le_of_suc-le-suc, not-suc-le-zero, eq-or-lt_of_le}
use native.Mathlib.Omega.{arith}
use lib.ListN.{length, get_or, length-append, get_or-append}
use lib.Seq.{get_or_at}
use Rattle.words.specs.Below.{list_below}

pub list_length : (n : ℕ) (f : ℕ → ℕ) → length (list_below n f) ≡ n
unfolding list_below
list_length zero f = refl
list_length (suc n) f = length-append (list_below n f) (f n ∷ []) ∙ omega (arith, list_length n f)

pub list_at : (n : ℕ) (f : ℕ → ℕ) (k : ℕ) → k < n → get_or (list_below n f) k 0 ≡ f k
unfolding list_below
list_at zero f k h = absurd (not-suc-le-zero h)
list_at (suc n) f k h = pick (eq-or-lt_of_le (le_of_suc-le-suc h)) (list_at n f k)
  where
    pick : (k ≡ n) ⊎ (k < n) → (k < n → get_or (list_below n f) k 0 ≡ f k) → get_or (list_below n f ++ (f n ∷ [])) k 0 ≡ f k
    pick (inl e) r = rw e (get_or_at (list_below n f) (f n) [] 0 n (list_length n f))
    pick (inr o) r = get_or-append (list_below n f) (f n ∷ []) 0 k (rw (list_length n f) o) ∙ r o

-- values that agree below n give one list
pub list_same : (n : ℕ) (f h : ℕ → ℕ) → ((k : ℕ) → k < n → f k ≡ h k) → list_below n f ≡ list_below n h
unfolding list_below
list_same zero f h e = refl
list_same (suc n) f h e =
    ap₂ (λ (x : ℕ) (l : List ℕ). l ++ (x ∷ [])) (e n (omega arith)) (list_same n f h (λ k l. e k (omega arith)))
