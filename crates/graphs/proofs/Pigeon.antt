-- The pigeonhole: different numbers below n are at most n, and a list without repeats is no longer than one that has all its numbers. Assumes nothing.
use mathlib.Core.Path.{◌≡◌, sym, ap, ◌∙◌}
use mathlib.Core.List.{List}
use Prim.Native.Nat.{ℕ, zero, suc, ◌≤◌, ◌<◌, zero-le}
use native.Mathlib.Nat.{not-suc-le-zero}
use native.Mathlib.Decide.{dec_lt, ℕ_discrete}
use native.Mathlib.Omega.{arith}
use lib.ListN.{length, get_or}
use Rattle.graphs.specs.Graph.{Graph, Listed, Each, Distinct}

abbrev pick : {A : Type 0} → Dec A → ℕ → ℕ → ℕ
pick (yes e) a b = a
pick (no e) a b = b

module _ (f : ℕ → ℕ) (m j : ℕ) (below : (i : ℕ) → i < suc j → f i < suc m)
    (apart : (i i' : ℕ) → i < suc j → i' < suc j → f i ≡ f i' → i ≡ i') where
  pick_below : (i : ℕ) → i < j → (q : Dec (f i ≡ m)) → pick q (f j) (f i) < m
  pick_below i l (yes e) =
      let b : f j < suc m = below j (omega arith) in
      let ne : (f j ≡ m → ⊥) = λ h. let s : i ≡ j = apart i j (omega arith) (omega arith) (e ∙ sym h) in omega arith in
      omega arith
  pick_below i l (no e) =
      let b : f i < suc m = below i (omega arith) in
      omega arith

  pick_apart : (i i' : ℕ) → i < j → i' < j → (q : Dec (f i ≡ m)) (q' : Dec (f i' ≡ m)) → pick q (f j) (f i) ≡ pick q' (f j) (f i') → i ≡ i'
  pick_apart i i' l l' (yes e) (yes e') h = apart i i' (omega arith) (omega arith) (e ∙ sym e')
  pick_apart i i' l l' (yes e) (no e') h =
      let s : j ≡ i' = apart j i' (omega arith) (omega arith) h in
      omega arith
  pick_apart i i' l l' (no e) (yes e') h =
      let s : i ≡ j = apart i j (omega arith) (omega arith) h in
      omega arith
  pick_apart i i' l l' (no e) (no e') h = apart i i' (omega arith) (omega arith) h

pub pigeon : (n k : ℕ) (f : ℕ → ℕ) → ((i : ℕ) → i < k → f i < n) → ((i j : ℕ) → i < k → j < k → f i ≡ f j → i ≡ j) → k ≤ n
pigeon n zero f below apart = zero-le
pigeon zero (suc j) f below apart = absurd (not-suc-le-zero (below 0 (omega arith)))
pigeon (suc m) (suc j) f below apart =
    let r : j ≤ m =
    pigeon m j (λ i. pick (ℕ_discrete (f i) m) (f j) (f i)) (λ i l. pick_below f m j below apart i l (ℕ_discrete (f i) m))
    (λ i i' l l' h. pick_apart f m j below apart i i' l l' (ℕ_discrete (f i) m) (ℕ_discrete (f i') m) h) in
    omega arith

-- a list without repeats is no longer than one that has all its states: the places at which they are listed are different
pub distinct_fits : (G : Graph) (l m : List G.State) → Distinct G l → Each G (λ x. Listed G x m) l → length l ≤ length m
distinct_fits G l m d f = pigeon (length m) (length l) (λ i. place i (dec_lt i (length l))) (λ i h. inside i h (dec_lt i (length l)))
    (λ i j h k e. apart i j h k (dec_lt i (length l)) (dec_lt j (length l)) e)
  where
    place : (i : ℕ) → Dec (i < length l) → ℕ
    place i (yes h) = (f i h).index
    place i (no h) = 0

    inside : (i : ℕ) → i < length l → (q : Dec (i < length l)) → place i q < length m
    inside i h (yes k) = (f i k).inside
    inside i h (no k) = absurd (k h)

    apart : (i j : ℕ) → i < length l → j < length l → (p : Dec (i < length l)) (q : Dec (j < length l)) → place i p ≡ place j q → i ≡ j
    apart i j h k (no p) q e = absurd (p h)
    apart i j h k (yes p) (no q) e = absurd (q k)
    apart i j h k (yes p) (yes q) e = go (dec_lt i j) (dec_lt j i)
      where
        same : get_or l i G.first ≡ get_or l j G.first
        same = sym (f i p).found ∙ ap (λ n. get_or m n G.first) e ∙ (f j q).found

        go : Dec (i < j) → Dec (j < i) → i ≡ j
        go (yes a) b = absurd (d i j a k same)
        go (no a) (yes b) = absurd (d j i b h (sym same))
        go (no a) (no b) = omega arith
