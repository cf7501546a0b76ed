-- The places of the columns: they rise, each is the first that is not taken, and two marks of a segment have places of different remainders. Assumes
-- nothing.
use Prim.Native.Nat.{ℕ, zero, suc, ◌+◌, ◌%◌, ◌≤◌, ◌<◌}
use mathlib.Core.Path.{◌≡◌, refl, sym, ap, ◌∙◌, subst}
use mathlib.Core.Bool.{true, false, cond, not, ◌&&◌}
use mathlib.Core.Logic.{◌⊎◌, inl, inr}
use mathlib.Core.List.{List, [], ◌∷◌, ◌++◌}
use native.Mathlib.Nat.{eq-or-lt_of_le, le_of_suc-le-suc, not-suc-le-zero}
use native.Mathlib.Numerals.{add-one}
use native.Mathlib.Omega.{arith}
use borrow.Author.Tests.{eq-eqb, not-true, not-false}
use lib.Dec.{eqb}
use lib.ListN.{length, get_or, length-append, get_or-append}
use lib.Seq.{get_or_at}
use Rattle.words.specs.Below.{some_below, count_below}
use Rattle.words.proofs.Tests.{nowhere, and_left, and_right, and_true}
use Rattle.words.proofs.BelowLaws.{some_intro, some_elim, count_start, count_more, least_first, least_skips, least_passes, max_above}
use Rattle.words.proofs.CountLaws.{count_le, count_longer, some_left}
use Rattle.unit.specs.Table.{Table}
use Rattle.collision.specs.Meaning.{Bounded}
use Rattle.collision.specs.Vector.{marks_of}
use Rattle.delays.specs.Delays.{Marks, place_of, last_of, sharing, taken, next_place, places, crowded}
use Rattle.delays.proofs.RemainderLaws.{count_taken, one_remainder}

-- column i + 1 has place i of the list
pub place_of_lem : (l : List ℕ) (i : ℕ) → place_of l (i + 1) ≡ get_or l i 0
place_of_lem l i = ap (place_of l) (add-one i)

module _ (R : Marks) (m : ℕ) where
  pub places_length : (n : ℕ) → length (places R m n) ≡ n
  unfolding places
  places_length zero = refl
  places_length (suc n) = length-append (places R m n) (next_place R m (places R m n) ∷ []) ∙ omega (arith, places_length n)

  -- the place of the column after the first i
  unfoldable pub place_at_lem : ℕ → ℕ
  place_at_lem i = next_place R m (places R m i)

  found_at : (n i : ℕ) → i < n → get_or (places R m n) i 0 ≡ place_at_lem i
  unfolding places place_at_lem
  found_at zero i h = absurd (not-suc-le-zero h)
  found_at (suc n) i h = pick (eq-or-lt_of_le (le_of_suc-le-suc h)) (found_at n i)
    where
      pick : (i ≡ n) ⊎ (i < n) → (i < n → get_or (places R m n) i 0 ≡ next_place R m (places R m i))
          → get_or (places R m n ++ (next_place R m (places R m n) ∷ [])) i 0 ≡ next_place R m (places R m i)
      pick (inl e) r = rw e (get_or_at (places R m n) (next_place R m (places R m n)) [] 0 n (places_length n))
      pick (inr o) r = get_or-append (places R m n) (next_place R m (places R m n) ∷ []) 0 i (rw (places_length n) o) ∙ r o

  pub place_at : (n i : ℕ) → i < n → place_of (places R m n) (i + 1) ≡ place_at_lem i
  place_at n i h = place_of_lem (places R m n) i ∙ found_at n i h

  -- the last of n + 1 places
  pub last_is : (n : ℕ) → last_of (places R m (suc n)) ≡ place_at_lem n
  last_is n = ap (place_of (places R m (suc n))) (places_length (suc n)) ∙ found_at (suc n) n (omega arith)

  -- the place of the last of the first i columns
  pub place_before : (n i : ℕ) → i ≤ n → place_of (places R m n) i ≡ last_of (places R m i)
  unfolding places
  place_before n zero h = refl
  place_before n (suc i) h = found_at n i h ∙ sym (last_is i)

  -- They rise

  pub place_after_lem : (i : ℕ) → last_of (places R m i) < place_at_lem i
  unfolding place_at_lem next_place
  place_after_lem i = omega (arith, least_first m (last_of (places R m i) + 1) (λ p. not (taken R m (places R m i) p)))

  pub place_first : (i : ℕ) → 1 ≤ place_at_lem i
  place_first i = omega (arith, place_after_lem i)

  pub place_next : (i : ℕ) → place_at_lem i < place_at_lem (suc i)
  place_next i = omega (arith, place_after_lem (suc i), last_is i)

  pub place_order : (i j : ℕ) → i < j → place_at_lem i < place_at_lem j
  place_order i zero h = absurd (not-suc-le-zero h)
  place_order i (suc j) h = pick (eq-or-lt_of_le (le_of_suc-le-suc h)) (place_order i j)
    where
      pick : (i ≡ j) ⊎ (i < j) → (i < j → place_at_lem i < place_at_lem j) → place_at_lem i < place_at_lem (suc j)
      pick (inl e) r = let s : place_at_lem i ≡ place_at_lem j = ap place_at_lem e in omega (arith, place_next j)
      pick (inr o) r = omega (arith, place_next j, r o)

  -- more columns reach no less far
  pub last_most : (i n : ℕ) → i ≤ n → last_of (places R m i) ≤ last_of (places R m n)
  last_most i zero h = let e : i ≡ 0 = omega arith in rw e (omega arith)
  last_most i (suc n) h = pick (eq-or-lt_of_le h) (last_most i n)
    where
      pick : (i ≡ suc n) ⊎ (i < suc n) → (i ≤ n → last_of (places R m i) ≤ last_of (places R m n)) → last_of (places R m i) ≤ last_of (places R m (suc n))
      pick (inl e) r = rw e (omega arith)
      pick (inr o) r = omega (arith, r (le_of_suc-le-suc o), place_after_lem n, last_is n)

  -- no two columns have one place
  pub place_one : (i j : ℕ) → place_at_lem i ≡ place_at_lem j → i ≡ j
  place_one i j e = equal (λ o. omega (arith, place_order i j o)) (λ o. omega (arith, place_order j i o))
    where
      equal : (i < j → ⊥) → (j < i → ⊥) → i ≡ j
      equal f g = omega arith

  -- all places before it are taken
  pub place_skips : (i p : ℕ) → last_of (places R m i) < p → p < place_at_lem i → taken R m (places R m i) p ≡ true
  unfolding place_at_lem next_place
  place_skips i p h l =
      not-false (taken R m (places R m i) p)
      (least_skips m (last_of (places R m i) + 1) (λ p. not (taken R m (places R m i) p)) p (omega arith) l)

-- Remainders

module _ (T : Table) (q m : ℕ) (b : Bounded T) (single : crowded (T q) ≡ false) (room : marks_of T q ≤ m) where
  -- a column has marks in one segment only
  same_segment : (c r s : ℕ) → r < s → T q r c ≡ true → T q s c ≡ true → ⊥
  unfolding crowded
  same_segment c r s h x y =
      nowhere (sym single
      ∙ some_intro 33 (λ c. some_below 17 (λ s. some_below s (λ r. T q r c && T q s c))) c (b.column_lt q s c y)
      (some_intro 17 (λ s. some_below s (λ r. T q r c && T q s c)) s (b.segment_lt q s c y)
      (some_intro s (λ r. T q r c && T q s c) r h (and_true x y))))

  -- an earlier column that shares a segment with a column marked in s is marked in s
  shares_mark : (s c d : ℕ) → T q s c ≡ true → sharing (T q) d c ≡ true → T q s d ≡ true
  unfolding sharing
  shares_mark s c d x e =
      let p = some_elim 17 (λ s. T q s d && T q s c) e in
      let one = and_left (T q p.at d) _ p.passed in
      let two = and_right (T q p.at d) _ p.passed in
      subst (λ (r : ℕ). T q r d ≡ true) (equal p.at s (λ o. same_segment c p.at s o two x) (λ o. same_segment c s p.at o x two)) one
    where
      equal : (x y : ℕ) → (x < y → ⊥) → (y < x → ⊥) → x ≡ y
      equal x y f g = omega arith

  -- fewer than m earlier marks
  few_earlier : (s i : ℕ) → T q s (i + 1) ≡ true → count_below i (λ k. T q s (k + 1)) < m
  unfolding marks_of
  few_earlier s i x =
      let one : count_below (i + 1) (λ k. T q s (k + 1)) ≡ 1 + count_below i (λ k. T q s (k + 1)) =
      count_more i (λ k. T q s (k + 1)) ∙ ap (λ a. cond a 1 0 + count_below i (λ k. T q s (k + 1))) x in
      let two : count_below (i + 1 + 1) (λ c. T q s c) ≡ cond (T q s 0) 1 0 + count_below (i + 1) (λ k. T q s (k + 1)) = count_start (i + 1) (λ c. T q s c) in
      let three : count_below (i + 1 + 1) (λ c. T q s c) ≤ count_below 33 (λ c. T q s c) = count_longer (i + 1 + 1) 33 (λ c. T q s c) (omega (arith, b.column_lt q s (i + 1) x)) in
      let four : count_below 33 (λ c. T q s c) ≤ marks_of T q = max_above 17 (λ s. count_below 33 (λ c. T q s c)) s (b.segment_lt q s (i + 1) x) in
      omega (arith, room)

  -- the place of a marked column has a remainder that none of them has
  free_place : (s i : ℕ) → T q s (i + 1) ≡ true → taken (T q) m (places (T q) m i) (place_at_lem (T q) m i) ≡ false
  unfolding place_at_lem next_place taken
  free_place s i x =
      let l = places (T q) m i in
      let start = last_of l + 1 in
      let n : length l ≡ i = places_length (T q) m i in
      let few : count_below m (λ k. some_below (length l) (λ j. sharing (T q) (j + 1) (length l + 1) && eqb (place_of l (j + 1) % m) ((start + k) % m)))
      ≤ count_below (length l) (λ j. sharing (T q) (j + 1) (length l + 1)) =
      count_taken m (length l) (λ j. sharing (T q) (j + 1) (length l + 1)) (λ j k. eqb (place_of l (j + 1) % m) ((start + k) % m)) (λ j h. one_remainder m start (place_of l (j + 1) % m)) in
      let marks : count_below (length l) (λ j. sharing (T q) (j + 1) (length l + 1)) ≤ count_below (length l) (λ j. T q s (j + 1)) =
      count_le (length l) (λ j. sharing (T q) (j + 1) (length l + 1)) (λ j. T q s (j + 1))
      (λ j h e. shares_mark s (length l + 1) (j + 1) (subst (λ (k : ℕ). T q s (k + 1) ≡ true) (sym n) x) e) in
      let below : count_below (length l) (λ j. T q s (j + 1)) < m = subst (λ (k : ℕ). count_below k (λ j. T q s (j + 1)) < m) (sym n) (few_earlier s i x) in
      let p = some_left m (λ k. taken (T q) m l (start + k)) (omega (arith, few)) in
      not-true (taken (T q) m l (place_at_lem (T q) m i))
      (least_passes m start (λ p. not (taken (T q) m l p)) (start + p.at) (omega arith) (omega (arith, p.inside)) p.passed)

  pub place_apart : (s j i : ℕ) → j < i → T q s (j + 1) ≡ true → T q s (i + 1) ≡ true → place_at_lem (T q) m j % m ≡ place_at_lem (T q) m i % m → ⊥
  unfolding taken sharing
  place_apart s j i h y x e =
      let l = places (T q) m i in
      let n : length l ≡ i = places_length (T q) m i in
      let z : T q s (length l + 1) ≡ true = subst (λ (k : ℕ). T q s (k + 1) ≡ true) (sym n) x in
      nowhere (sym (free_place s i x)
      ∙ some_intro (length l) (λ j. sharing (T q) (j + 1) (length l + 1) && eqb (place_of l (j + 1) % m) (place_at_lem (T q) m i % m)) j (omega (arith, n))
      (and_true (some_intro 17 (λ s. T q s (j + 1) && T q s (length l + 1)) s (b.segment_lt q s (i + 1) x) (and_true y z))
      (eq-eqb (place_of l (j + 1) % m) (place_at_lem (T q) m i % m) (ap (λ k. k % m) (place_at (T q) m i j h) ∙ e))))
