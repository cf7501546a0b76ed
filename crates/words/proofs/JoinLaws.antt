-- Laws of lists joined number by number. Assumes nothing.
use mathlib.Core.Path.{◌≡◌, refl, sym, ap, ap₂, ◌∙◌}
use mathlib.Core.List.{List, ◌++◌}
use mathlib.Core.Logic.{◌⊎◌, inl, inr}
use Prim.Native.Nat.{ℕ, zero, suc, ◌+◌, ◌*◌, ◌≤◌, ◌<◌}
use native.Mathlib.Nat.{eq-or-lt_of_le, le_of_suc-le-suc, not-suc-le-zero, mul-suc, mul-zero, mul-le-mul_left}
use native.Mathlib.Numerals.{add-one}
use native.Mathlib.Omega.{arith}
use lib.ListN.{length, get_or, take, drop, length-append, length-drop}
use lib.Seq.{take_all, take-add, drop_at, drop-drop, take-append-le, drop-append-le, get_or-take, get_or-drop}
use Rattle.words.specs.Below.{join_below}

-- one list more
pub join_more : (n : ℕ) (f : ℕ → List ℕ) → join_below (n + 1) f ≡ join_below n f ++ f n
unfolding join_below
join_more n f = ap (λ k. join_below k f) (add-one n)

-- lists that agree below n
pub join_same : (n : ℕ) (f h : ℕ → List ℕ) → ((k : ℕ) → k < n → f k ≡ h k) → join_below n f ≡ join_below n h
unfolding join_below
join_same zero f h e = refl
join_same (suc n) f h e = ap₂ (λ (x y : List ℕ). x ++ y) (join_same n f h (λ k l. e k (omega arith))) (e n (omega arith))

-- Lists of one length

pub join_length : (n m : ℕ) (f : ℕ → List ℕ) → ((k : ℕ) → k < n → length (f k) ≡ m) → length (join_below n f) ≡ m * n
unfolding join_below
join_length zero m f h = sym (mul-zero m)
join_length (suc n) m f h =
    length-append (join_below n f) (f n) ∙ ap₂ ◌+◌ (join_length n m f (λ k l. h k (omega arith))) (h n (omega arith)) ∙ sym (mul-suc m n)

-- list k stands at m * k
pub join_at : (n m : ℕ) (f : ℕ → List ℕ) → ((k : ℕ) → k < n → length (f k) ≡ m) → (k : ℕ) → k < n → take m (drop (m * k) (join_below n f)) ≡ f k
unfolding join_below
join_at zero m f h k l = absurd (not-suc-le-zero l)
join_at (suc n) m f h k l = pick (eq-or-lt_of_le (le_of_suc-le-suc l)) (join_at n m f (λ j g. h j (omega arith)) k)
  where
    size : length (join_below n f) ≡ m * n
    size = join_length n m f (λ j g. h j (omega arith))

    pick : (k ≡ n) ⊎ (k < n) → (k < n → take m (drop (m * k) (join_below n f)) ≡ f k) → take m (drop (m * k) (join_below n f ++ f n)) ≡ f k
    pick (inl e) r =
        let e2 : length (join_below n f) ≡ m * k = size ∙ ap (λ j. m * j) (sym e) in
        let s : length (f n) ≤ m = omega (arith, h n (omega arith)) in
        ap (take m) (drop_at (join_below n f) (f n) (m * k) e2) ∙ take_all m (f n) s ∙ ap f (sym e)
    pick (inr o) r =
        let g : m * suc k ≤ m * n = mul-le-mul_left m o in
        let inside : m * k + m ≤ length (join_below n f) = omega (arith, size, mul-suc m k) in
        let rest : m ≤ length (drop (m * k) (join_below n f)) = omega (arith, length-drop (m * k) (join_below n f)) in
        ap (take m) (drop-append-le (m * k) (join_below n f) (f n) (omega arith))
        ∙ take-append-le m (drop (m * k) (join_below n f)) (f n) rest ∙ r o

pub join_get_d : (n m : ℕ) (f : ℕ → List ℕ) → ((k : ℕ) → k < n → length (f k) ≡ m) → (k j : ℕ) → k < n → j < m
    → get_or (join_below n f) (m * k + j) 0 ≡ get_or (f k) j 0
join_get_d n m f h k j l i =
    sym (get_or-drop (m * k) (join_below n f) j 0) ∙ sym (get_or-take m (drop (m * k) (join_below n f)) j 0 i) ∙ ap (λ x. get_or x j 0) (join_at n m f h k l)

-- a list whose parts of m elements from `base` on are those of f
pub join_part : (n m base : ℕ) (b : List ℕ) (f : ℕ → List ℕ) → ((k : ℕ) → k < n → take m (drop (base + m * k) b) ≡ f k)
    → take (m * n) (drop base b) ≡ join_below n f
unfolding join_below
join_part zero m base b f h = ap (λ k. take k (drop base b)) (mul-zero m)
join_part (suc n) m base b f h =
    ap (λ k. take k (drop base b)) (mul-suc m n) ∙ take-add (m * n) m (drop base b)
    ∙ ap₂ (λ (x y : List ℕ). x ++ y) (join_part n m base b f (λ k l. h k (omega arith)))
    (ap (take m) (drop-drop (m * n) base b) ∙ h n (omega arith))
