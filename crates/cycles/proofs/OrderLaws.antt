-- The order of lists of numbers, and its first among the rotations of a list. Assumes nothing.
use mathlib.Core.Path.{◌≡◌, refl, sym, ap, ap₂, ◌∙◌, subst}
use mathlib.Core.Bool.{true, false, not, ◌&&◌}
use mathlib.Core.Logic.{◌⊎◌, inl, inr}
use mathlib.Core.List.{List, [], ◌∷◌}
use Prim.Native.Nat.{ℕ, zero, suc, ◌+◌, ◌-◌, ◌%◌, ◌≤◌, ◌<◌}
use native.Mathlib.Nat.{le_refl, not-suc-le-zero, mod-lt}
use native.Mathlib.Numerals.{add-one}
use native.Mathlib.Decide.{dec_lt}
use native.Mathlib.Omega.{arith}
use lib.Dec.{ltb, eqb}
use lib.ListN.{length, get_or, drop}
use lib.Seq.{drop-cons}
use borrow.Author.Count.{below_more}
use borrow.Author.Tests.{lt-ltb, le-ltb, eq-eqb, ne_eqb, ltb-true, eqb-true}
use Rattle.words.specs.Below.{least_from}
use Rattle.words.proofs.Tests.{nowhere, and_left, and_right, or_cases, not_passed, by_test}
use Rattle.words.proofs.BelowLaws.{some_intro, some_none, least_is}
use Rattle.graphs.specs.Rotation.{rotate}
use Rattle.cycles.specs.Rotation.{comes_first, LeastRotated, leads, first_rotation}
use Rattle.graphs.proofs.Rotations.{rotate_length, rotate_at}
use Rattle.cycles.proofs.RotationLaws.{rotate_rotate}

-- The first number of each list decides, or their tails do

pub comes_less : (x y : ℕ) (a b : List ℕ) → x < y → comes_first (x ∷ a) (y ∷ b) ≡ true
comes_less x y a b h = rw (lt-ltb x y h)

pub comes_more : (x y : ℕ) (a b : List ℕ) → y < x → comes_first (x ∷ a) (y ∷ b) ≡ false
comes_more x y a b h = rw (le-ltb x y (omega arith), ne_eqb x y (λ e. omega arith))

pub comes_same : (x y : ℕ) (a b : List ℕ) → x ≡ y → comes_first (x ∷ a) (y ∷ b) ≡ comes_first a b
comes_same x y a b e = rw (le-ltb x y (omega arith), eq-eqb x y e)

pub data Decided (x y : ℕ) (a b : List ℕ) : Type 0 where
  less : x < y → Decided x y a b
  same : x ≡ y → comes_first a b ≡ true → Decided x y a b

decided : (x y : ℕ) (a b : List ℕ) → comes_first (x ∷ a) (y ∷ b) ≡ true → Decided x y a b
decided x y a b e = go (or_cases (ltb x y) (eqb x y && comes_first a b) e)
  where
    go : (ltb x y ≡ true) ⊎ (eqb x y && comes_first a b ≡ true) → Decided x y a b
    go (inl h) = less (ltb-true x y h)
    go (inr h) = same (eqb-true x y (and_left (eqb x y) _ h)) (and_right (eqb x y) _ h)

-- An order

pub comes_refl : (a : List ℕ) → comes_first a a ≡ true
comes_refl [] = refl
comes_refl (x ∷ a) = comes_same x x a a refl ∙ comes_refl a

pub comes_trans : (a b d : List ℕ) → comes_first a b ≡ true → comes_first b d ≡ true → comes_first a d ≡ true
comes_trans [] b d p q = refl
comes_trans (x ∷ a) [] d p q = nowhere p
comes_trans (x ∷ a) (y ∷ b) [] p q = nowhere q
comes_trans (x ∷ a) (y ∷ b) (z ∷ d) p q = go (comes_trans a b d) (decided x y a b p) (decided y z b d q)
  where
    go : (comes_first a b ≡ true → comes_first b d ≡ true → comes_first a d ≡ true) → Decided x y a b → Decided y z b d → comes_first (x ∷ a) (z ∷ d) ≡ true
    go r (less h) (less k) = comes_less x z a d (omega arith)
    go r (less h) (same e k) = comes_less x z a d (omega arith)
    go r (same e h) (less k) = comes_less x z a d (omega arith)
    go r (same e h) (same f k) = comes_same x z a d (e ∙ f) ∙ r h k

pub comes_total : (a b : List ℕ) → comes_first a b ≡ false → comes_first b a ≡ true
comes_total [] b e = nowhere (sym e)
comes_total (x ∷ a) [] e = refl
comes_total (x ∷ a) (y ∷ b) e = go (comes_total a b) (dec_lt x y) (dec_lt y x)
  where
    go : (comes_first a b ≡ false → comes_first b a ≡ true) → Dec (x < y) → Dec (y < x) → comes_first (y ∷ b) (x ∷ a) ≡ true
    go r (yes h) k = nowhere (sym e ∙ comes_less x y a b h)
    go r (no h) (yes k) = comes_less y x b a k
    go r (no h) (no k) =
        let same : x ≡ y = omega arith in
        comes_same y x b a (sym same) ∙ r (sym (comes_same x y a b same) ∙ e)

-- Two rotations compared, number by number

-- number i of the rotation by r
abbrev pub turned : List ℕ → ℕ → ℕ → ℕ
turned l r i = get_or l ((r + i) % length l) 0

module _ (l : List ℕ) (one other : ℕ) where
  -- what is left of the two lists decides
  abbrev pub Comparing : ℕ → Type 0
  Comparing i = comes_first (drop i (rotate l one)) (drop i (rotate l other)) ≡ comes_first (rotate l one) (rotate l other)

  module _ (i : ℕ) (r : Comparing i) (more : i < length l) (low : one < length l) (high : other < length l) where
    cut : (k : ℕ) → k < length l → drop i (rotate l k) ≡ turned l k i ∷ drop (suc i) (rotate l k)
    cut k h =
        drop-cons (rotate l k) i 0 (omega (arith, rotate_length l k))
        ∙ ap (λ z. z ∷ drop (suc i) (rotate l k)) (rotate_at l k i (omega arith) more)

    heads : comes_first (turned l one i ∷ drop (suc i) (rotate l one)) (turned l other i ∷ drop (suc i) (rotate l other))
        ≡ comes_first (rotate l one) (rotate l other)
    heads = ap₂ comes_first (sym (cut one low)) (sym (cut other high)) ∙ r

    pub compare_less : turned l one i < turned l other i → true ≡ comes_first (rotate l one) (rotate l other)
    compare_less h = sym (comes_less _ _ (drop (suc i) (rotate l one)) (drop (suc i) (rotate l other)) h) ∙ heads

    pub compare_more : turned l other i < turned l one i → false ≡ comes_first (rotate l one) (rotate l other)
    compare_more h = sym (comes_more _ _ (drop (suc i) (rotate l one)) (drop (suc i) (rotate l other)) h) ∙ heads

    pub compare_on : turned l one i ≤ turned l other i → turned l other i ≤ turned l one i → Comparing (i + 1)
    compare_on h k =
        let e : turned l one i ≡ turned l other i = omega arith in
        ap (λ j. comes_first (drop j (rotate l one)) (drop j (rotate l other))) (add-one i)
        ∙ sym (comes_same _ _ (drop (suc i) (rotate l one)) (drop (suc i) (rotate l other)) e) ∙ heads

-- The rotation that comes first

-- of the rotations below r, that by `best` comes first, and none below `best` does so too
pub record Leading (l : List ℕ) (best r : ℕ) : Type 0 where
  pub below : best < r
  pub inside : 0 < best → best < length l
  pub first : (k : ℕ) → k < r → comes_first (rotate l best) (rotate l k) ≡ true
  pub before : (k : ℕ) → k < best → comes_first (rotate l k) (rotate l best) ≡ false

pub lead_start : (l : List ℕ) → Leading l 0 1
lead_start l = record {
  below = omega arith;
  inside = λ h. absurd (omega arith);
  first = λ k h. let e : k ≡ 0 = omega arith in rw e (comes_refl (rotate l 0));
  before = λ k h. absurd (not-suc-le-zero h);
}

module _ {l : List ℕ} {best r : ℕ} (p : Leading l best r) where
  pub lead_keep : comes_first (rotate l best) (rotate l r) ≡ true → Leading l best (r + 1)
  lead_keep e = record {
    below = omega (arith, p.below);
    inside = p.inside;
    first = below_more (λ k. comes_first (rotate l best) (rotate l k) ≡ true) r p.first e;
    before = p.before;
  }

  pub lead_change : r < length l → comes_first (rotate l best) (rotate l r) ≡ false → Leading l r (r + 1)
  lead_change h e = record {
    below = omega arith;
    inside = λ o. h;
    first = below_more (λ k. comes_first (rotate l r) (rotate l k) ≡ true) r
        (λ k o. comes_trans (rotate l r) (rotate l best) (rotate l k) (comes_total (rotate l best) (rotate l r) e) (p.first k o))
        (comes_refl (rotate l r));
    before = λ k o.
        not_passed (comes_first (rotate l k) (rotate l r))
        (λ f. nowhere (sym e ∙ comes_trans (rotate l best) (rotate l k) (rotate l r) (p.first k o) f));
  }

  pub lead_end : length l ≤ r → best ≡ first_rotation l
  unfolding leads first_rotation
  lead_end h = sym (least_is (length l) 0 (leads l) best (omega arith) inside (λ j o k. earlier j k) here)
    where
      inside : best ≤ 0 + length l
      inside = go (dec_lt 0 best)
        where
          go : Dec (0 < best) → best ≤ 0 + length l
          go (yes o) = omega (arith, p.inside o)
          go (no o) = omega arith

      earlier : (j : ℕ) → j < best → leads l j ≡ false
      earlier j o =
          ap not
          (some_intro (length l) (λ k. not (comes_first (rotate l j) (rotate l k))) best (p.inside (omega arith)) (ap not (p.before j o)))

      here : best < 0 + length l → leads l best ≡ true
      here o = ap not (some_none (length l) (λ k. not (comes_first (rotate l best) (rotate l k))) (λ k b. ap not (p.first k (omega arith))))

-- the rotations below any number have a first
lead_some : (l : List ℕ) (m : ℕ) → m < length l → (best : ℕ) × Leading l best (m + 1)
lead_some l zero h = (0, lead_start l)
lead_some l (suc m) h = go (lead_some l m (omega arith))
  where
    go : (best : ℕ) × Leading l best (m + 1) → (best : ℕ) × Leading l best (suc m + 1)
    go q =
        let p : Leading l q.0 (suc m) = subst (Leading l q.0) (add-one m) q.1 in
        by_test (comes_first (rotate l q.0) (rotate l (suc m)))
        (λ e. (q.0, lead_keep p e))
        (λ e. (suc m, lead_change p h e))

pub lead_all : (l : List ℕ) → 0 < length l → Leading l (first_rotation l) (length l)
lead_all l h =
    let q = lead_some l (length l - 1) (omega arith) in
    let e : length l - 1 + 1 ≡ length l = omega arith in
    let p : Leading l q.0 (length l) = subst (Leading l q.0) e q.1 in
    subst (λ b. Leading l b (length l)) (lead_end p (le_refl (length l))) p

pub first_inside : (l : List ℕ) → 0 < length l → first_rotation l < length l
first_inside l h = (lead_all l h).below

pub first_le : (l : List ℕ) → first_rotation l ≤ length l
unfolding first_rotation least_from
first_le [] = omega arith
first_le (x ∷ l) = let h = first_inside (x ∷ l) (omega arith) in omega arith

pub rotate_least : (l : List ℕ) → LeastRotated (rotate l (first_rotation l))
rotate_least l r h =
    let n = rotate_length l (first_rotation l) in
    let p : 0 < length l = omega arith in
    let lead = lead_all l p in
    let at : ℕ = (first_rotation l + r) % length l in
    rw (rotate_rotate l (first_rotation l) r (omega (arith, lead.below)) (omega arith) p) (lead.first at (mod-lt (first_rotation l + r) p))
