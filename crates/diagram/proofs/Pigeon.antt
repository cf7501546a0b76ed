-- The pigeonhole: different numbers below n are at most n, and a list without repeats is no longer than one that has all its numbers. Assumes nothing.
use mathlib.Core.Path.{◌≡◌, sym, ap, ◌∙◌}
use mathlib.Core.List.{List, [], ◌∷◌}
use Prim.Native.Nat.{ℕ, zero, suc, ◌≤◌, ◌<◌, zero-le}
use native.Mathlib.Nat.{not-suc-le-zero, le_of_suc-le-suc}
use native.Mathlib.Decide.{dec_lt, ℕ_discrete}
use native.Mathlib.Omega.{arith}
use lib.ListN.{length, get_or}
use Rattle.diagram.specs.States.{Listed, Each, Distinct}

abbrev pick : {A : Type 0} → Dec A → ℕ → ℕ → ℕ
pick (yes e) a b = a
pick (no e) a b = b

module _ (f : ℕ → ℕ) (m j : ℕ) (below : (i : ℕ) → i < suc j → f i < suc m)
    (apart : (i i' : ℕ) → i < suc j → i' < suc j → f i ≡ f i' → i ≡ i') where
  pick_below : (i : ℕ) → i < j → (q : Dec (f i ≡ m)) → pick q (f j) (f i) < m
  pick_below i l (yes e) =
      let b : f j < suc m = below j (omega arith) in
      let ne : (f j ≡ m → ⊥) = λ h. let s : i ≡ j = apart i j (omega arith) (omega arith) (e ∙ sym h) in omega arith in
      omega arith
  pick_below i l (no e) =
      let b : f i < suc m = below i (omega arith) in
      omega arith

  pick_apart : (i i' : ℕ) → i < j → i' < j → (q : Dec (f i ≡ m)) (q' : Dec (f i' ≡ m)) → pick q (f j) (f i) ≡ pick q' (f j) (f i') → i ≡ i'
  pick_apart i i' l l' (yes e) (yes e') h = apart i i' (omega arith) (omega arith) (e ∙ sym e')
  pick_apart i i' l l' (yes e) (no e') h =
      let s : j ≡ i' = apart j i' (omega arith) (omega arith) h in
      omega arith
  pick_apart i i' l l' (no e) (yes e') h =
      let s : i ≡ j = apart i j (omega arith) (omega arith) h in
      omega arith
  pick_apart i i' l l' (no e) (no e') h = apart i i' (omega arith) (omega arith) h

pub pigeon : (n k : ℕ) (f : ℕ → ℕ) → ((i : ℕ) → i < k → f i < n) → ((i j : ℕ) → i < k → j < k → f i ≡ f j → i ≡ j) → k ≤ n
pigeon n zero f below apart = zero-le
pigeon zero (suc j) f below apart = absurd (not-suc-le-zero (below 0 (omega arith)))
pigeon (suc m) (suc j) f below apart =
    let r : j ≤ m =
    pigeon m j (λ i. pick (ℕ_discrete (f i) m) (f j) (f i)) (λ i l. pick_below f m j below apart i l (ℕ_discrete (f i) m))
    (λ i i' l l' h. pick_apart f m j below apart i i' l l' (ℕ_discrete (f i) m) (ℕ_discrete (f i') m) h) in
    omega arith

-- the first place of x in a list, or its length
place_of_lem : ℕ → List ℕ → ℕ
place_of_lem x [] = 0
place_of_lem x (y ∷ l) = pick (ℕ_discrete y x) 0 (suc (place_of_lem x l))

place_inside : (x : ℕ) (l : List ℕ) (i : ℕ) → i < length l → get_or l i 0 ≡ x → place_of_lem x l < length l
unfolding place_of_lem
place_inside x [] i h e = absurd (not-suc-le-zero h)
place_inside x (y ∷ l) zero h e = go (ℕ_discrete y x)
  where
    go : (q : Dec (y ≡ x)) → pick q 0 (suc (place_of_lem x l)) < suc (length l)
    go (yes p) = omega arith
    go (no p) = absurd (p e)
place_inside x (y ∷ l) (suc i) h e = go (ℕ_discrete y x) (place_inside x l i (le_of_suc-le-suc h) e)
  where
    go : (q : Dec (y ≡ x)) → place_of_lem x l < length l → pick q 0 (suc (place_of_lem x l)) < suc (length l)
    go (yes p) r = omega arith
    go (no p) r = omega arith

place_has : (x : ℕ) (l : List ℕ) → place_of_lem x l < length l → get_or l (place_of_lem x l) 0 ≡ x
unfolding place_of_lem
place_has x [] = λ h. absurd (not-suc-le-zero h)
place_has x (y ∷ l) = go (ℕ_discrete y x) (place_has x l)
  where
    go : (q : Dec (y ≡ x)) → (place_of_lem x l < length l → get_or l (place_of_lem x l) 0 ≡ x)
        → pick q 0 (suc (place_of_lem x l)) < suc (length l) → get_or (y ∷ l) (pick q 0 (suc (place_of_lem x l))) 0 ≡ x
    go (yes p) r h = p
    go (no p) r h = r (le_of_suc-le-suc h)

pub distinct_fits : (l m : List ℕ) → Distinct l → Each (λ x. Listed x m) l → length l ≤ length m
distinct_fits l m d f = pigeon (length m) (length l) place inside apart
  where
    place : ℕ → ℕ
    place i = place_of_lem (get_or l i 0) m

    inside : (i : ℕ) → i < length l → place i < length m
    inside i h = let r = f i h in place_inside (get_or l i 0) m r.index r.inside r.found

    has : (i : ℕ) → i < length l → get_or m (place i) 0 ≡ get_or l i 0
    has i h = place_has (get_or l i 0) m (inside i h)

    apart : (i j : ℕ) → i < length l → j < length l → place i ≡ place j → i ≡ j
    apart i j h k e = go (dec_lt i j) (dec_lt j i)
      where
        same : get_or l i 0 ≡ get_or l j 0
        same = sym (has i h) ∙ ap (λ p. get_or m p 0) e ∙ has j k

        go : Dec (i < j) → Dec (j < i) → i ≡ j
        go (yes p) q = absurd (d i j p k same)
        go (no p) (yes q) = absurd (d j i q h (sym same))
        go (no p) (no q) = omega arith
