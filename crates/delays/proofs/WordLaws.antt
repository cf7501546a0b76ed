-- A function's columns as words: which marks they say, where their places are, and when one has two marks. Assumes nothing.
use Prim.Native.Nat.{ℕ, zero, suc, ◌+◌, ◌-◌, ◌*◌, ◌%◌, ◌^◌, ◌≤◌, ◌<◌}
use mathlib.Core.Path.{◌≡◌, refl, sym, ap, ap₂, ◌∙◌}
use mathlib.Core.Bool.{Bool, true, false, not, ◌&&◌, ◌||◌}
use mathlib.Core.List.{List}
use native.Mathlib.Numerals.{add-one}
use native.Mathlib.Omega.{arith}
use borrow.Author.Count.{below_more}
use borrow.Author.Tests.{ltb-true, lt-ltb, eq-eqb, ne_eqb}
use lib.Bits.{bit_and}
use lib.Dec.{eqb}
use lib.ListN.{length, get_or, set, length-set}
use lib.Seq.{get_or-set_same, get_or-set_other}
use Rattle.words.specs.Bits.{is_set}
use Rattle.words.specs.Below.{some_below, count_below, least_from}
use Rattle.words.proofs.Tests.{nowhere, and_left, and_right, and_true, by_test, same_test}
use Rattle.words.proofs.BitLaws.{set_below}
use Rattle.words.proofs.BelowLaws.{some_intro, some_elim, some_same, least_is}
use Rattle.words.proofs.CountLaws.{count_one, count_two}
use Rattle.unit.specs.declared.FunctionUnit.{FunctionUnit}
use Rattle.unit.specs.Unit.{inside, marked, columns_of}
use Rattle.unit.proofs.Laws.{Within, within, inside_of}
use Rattle.unit.proofs.SoundLaws.{marked_place}
use Rattle.unit.proofs.ColumnLaws.{columns_marked}
use Rattle.collision.specs.Vector.{meet}
use Rattle.collision.proofs.RowLaws.{meet_and}
use Rattle.delays.specs.Delays.{Marks, place_of, sharing, last_of, taken, next_place, places, crowded}
use Rattle.delays.specs.Inner.{column_marks, two_in, taken_at, first_for, place_for, Placed}
use Rattle.delays.proofs.PlaceLaws.{places_length, place_at_lem, place_at, last_is}

-- Tests

pub none_more : (a b : ℕ) (t before : Bool) → a < 2 ^ 16 → bit_and a b ≡ 0 → before ≡ (meet a b && t || before)
none_more a b t before h e = let z : meet a b ≡ false = sym (meet_and a b h) ∙ ap not (eq-eqb (bit_and a b) 0 e) in rw z

pub some_more : (a b : ℕ) (t before : Bool) → a < 2 ^ 16 → (bit_and a b ≡ 0 → ⊥) → (t || before) ≡ (meet a b && t || before)
some_more a b t before h n = let z : meet a b ≡ true = sym (meet_and a b h) ∙ ap not (ne_eqb (bit_and a b) 0 n) in rw z

-- the place is taken by one of the first i columns
unfoldable pub taken_by : List ℕ → List ℕ → ℕ → ℕ → ℕ → ℕ → Bool
taken_by columns spots n m p i = some_below i (λ i. meet (get_or columns i 0) (get_or columns n 0) && eqb (get_or spots i 0 % m) (p % m))

pub by_none : (columns spots : List ℕ) (n m p : ℕ) → false ≡ taken_by columns spots n m p 0
unfolding taken_by some_below
by_none columns spots n m p = refl

pub by_more : (columns spots : List ℕ) (n m p i : ℕ)
    → (meet (get_or columns i 0) (get_or columns n 0) && eqb (get_or spots i 0 % m) (p % m) || taken_by columns spots n m p i) ≡ taken_by columns spots n m p (i + 1)
unfolding taken_by some_below
by_more columns spots n m p i = rw (add-one i)

pub by_all : (columns spots : List ℕ) (n m p : ℕ) → taken_by columns spots n m p n ≡ taken_at columns spots n m p
unfolding taken_by taken_at
by_all columns spots n m p = refl

pub first_none : (spots : List ℕ) (n : ℕ) → n ≡ 0 → 1 ≡ first_for spots n
unfolding first_for
first_none spots n e = rw (eq-eqb n 0 e)

pub first_some : (spots : List ℕ) (n : ℕ) → (n ≡ 0 → ⊥) → get_or spots (n - 1) 0 + 1 ≡ first_for spots n
unfolding first_for
first_some spots n e = rw (ne_eqb n 0 e)

-- The place that is found

-- all places before it were taken
pub found_place : (columns spots : List ℕ) (n m first place : ℕ) → first ≡ first_for spots n → first ≤ place → place ≤ first + m
    → ((p : ℕ) → first ≤ p → p < place → taken_at columns spots n m p ≡ true) → (place < first + m → taken_at columns spots n m place ≡ false)
    → place ≡ place_for columns spots n m
unfolding place_for
found_place columns spots n m first place f low high taken e =
    sym (least_is m (first_for spots n) (λ p. not (taken_at columns spots n m p)) place (omega arith) (omega arith)
    (λ p l k. ap not (taken p (omega arith) k)) (λ k. ap not (e (omega arith))))

-- The marks that the words say

pub record WordMark (columns : List ℕ) (s c : ℕ) : Type 0 where
  pub segment : Within s 16
  pub column : Within c 32
  pub bit : is_set (get_or columns (c - 1) 0) (s - 1) ≡ true

pub mark_has : (columns : List ℕ) (s c : ℕ) → column_marks columns s c ≡ true → WordMark columns s c
unfolding column_marks
mark_has columns s c e =
    let r = and_right (inside s 16) _ e in
    record { segment = within s 16 (and_left (inside s 16) _ e); column = within c 32 (and_left (inside c 32) _ r); bit = and_right (inside c 32) _ r }

-- bit s of word i
pub mark_of : (columns : List ℕ) (s i : ℕ) → s < 16 → i < 32 → is_set (get_or columns i 0) s ≡ true → column_marks columns (s + 1) (i + 1) ≡ true
unfolding column_marks
mark_of columns s i hs hi e =
    let a : s + 1 - 1 ≡ s = omega arith in
    let b : i + 1 - 1 ≡ i = omega arith in
    and_true (inside_of (s + 1) 16 (omega arith) (omega arith))
    (and_true (inside_of (i + 1) 32 (omega arith) (omega arith)) (ap₂ (λ (x y : ℕ). is_set (get_or columns x 0) y) b a ∙ e))

-- bit s - 1 of word i, from a mark
bit_of_lem : (columns : List ℕ) (s i : ℕ) → column_marks columns s (i + 1) ≡ true → is_set (get_or columns i 0) (s - 1) ≡ true
bit_of_lem columns s i e = let b : i ≡ i + 1 - 1 = omega arith in ap (λ x. is_set (get_or columns x 0) (s - 1)) b ∙ (mark_has columns s (i + 1) e).bit

-- they are those of the unit's function
pub columns_say : (u : FunctionUnit) (q : ℕ) → Within q 4 → column_marks (columns_of u q) ≡ marked u q
columns_say u q w = λ i s c. at s c i
  where
    at : (s c : ℕ) → column_marks (columns_of u q) s c ≡ marked u q s c
    at s c =
        same_test (column_marks (columns_of u q) s c) (marked u q s c)
        (λ e.
        let m = mark_has (columns_of u q) s c e in
        columns_marked u q s c w.least w.most m.segment.least m.segment.most m.column.least m.column.most ∙ m.bit)
        (λ e.
        let p = marked_place u q s c e in
        both s c p.segment1 p.segment16 p.column1 p.column32
        (sym (columns_marked u q s c w.least w.most p.segment1 p.segment16 p.column1 p.column32) ∙ e))
      where
        both : (s c : ℕ) → 1 ≤ s → s ≤ 16 → 1 ≤ c → c ≤ 32 → is_set (get_or (columns_of u q) (c - 1) 0) (s - 1) ≡ true → column_marks (columns_of u q) s c ≡ true
        both s c s1 s16 c1 c32 e =
            let a : s - 1 + 1 ≡ s = omega arith in
            let b : c - 1 + 1 ≡ c = omega arith in
            sym (ap₂ (λ (x y : ℕ). column_marks (columns_of u q) x y) a b) ∙ mark_of (columns_of u q) (s - 1) (c - 1) (omega arith) (omega arith) e

-- Two marks in a column

pub crowded_words : (columns : List ℕ) → ((i : ℕ) → i < 32 → get_or columns i 0 < 2 ^ 16) → some_below 32 (λ i. two_in (get_or columns i 0)) ≡ crowded (column_marks columns)
unfolding crowded
crowded_words columns small = same_test (some_below 32 (λ i. two_in (get_or columns i 0))) (crowded (column_marks columns)) there back
  where
    M : Marks
    M = column_marks columns

    there : some_below 32 (λ i. two_in (get_or columns i 0)) ≡ true → crowded M ≡ true
    there e =
        let p = some_elim 32 (λ i. two_in (get_or columns i 0)) e in
        let w = get_or columns p.at 0 in
        let two = ltb-true 1 (count_below 32 (is_set w)) p.passed in
        by_test (crowded M) (λ t. t)
        (λ f. absurd (omega (
          arith,
          count_one 32 (is_set w)
              (λ i j h l x y.
              let hj : j < 16 = set_below w 16 j (small p.at p.inside) y in
              let hi : i < 16 = omega arith in
              nowhere (sym f
              ∙ some_intro 33 (λ c. some_below 17 (λ s. some_below s (λ r. M r c && M s c))) (p.at + 1) (omega (arith, p.inside))
              (some_intro 17 (λ s. some_below s (λ r. M r (p.at + 1) && M s (p.at + 1))) (j + 1) (omega arith)
              (some_intro (j + 1) (λ r. M r (p.at + 1) && M (j + 1) (p.at + 1)) (i + 1) (omega arith)
              (and_true (mark_of columns i p.at hi p.inside x) (mark_of columns j p.at hj p.inside y)))))),
        )))

    back : crowded M ≡ true → some_below 32 (λ i. two_in (get_or columns i 0)) ≡ true
    back e =
        let c = some_elim 33 (λ c. some_below 17 (λ s. some_below s (λ r. M r c && M s c))) e in
        let s = some_elim 17 (λ s. some_below s (λ r. M r c.at && M s c.at)) c.passed in
        let r = some_elim s.at (λ r. M r c.at && M s.at c.at) s.passed in
        let a = mark_has columns r.at c.at (and_left (M r.at c.at) _ r.passed) in
        let b = mark_has columns s.at c.at (and_right (M r.at c.at) _ r.passed) in
        let w = get_or columns (c.at - 1) 0 in
        let two = count_two 32 (is_set w) (r.at - 1) (s.at - 1) (omega (arith, r.inside, a.segment.least)) (omega (arith, b.segment.most)) a.bit b.bit in
        some_intro 32 (λ i. two_in (get_or columns i 0)) (c.at - 1) (omega (arith, a.column.least, a.column.most)) (lt-ltb 1 (count_below 32 (is_set w)) two)

-- The places one after the other

module _ (columns : List ℕ) (m : ℕ) where
  abbrev R : Marks
  R = column_marks columns

  -- two columns share a segment where their words meet
  words_share : (i k : ℕ) → i < 32 → k < 32 → sharing R (i + 1) (k + 1) ≡ meet (get_or columns i 0) (get_or columns k 0)
  unfolding sharing meet
  words_share i k hi hk =
      same_test (some_below 17 (λ s. R s (i + 1) && R s (k + 1))) (some_below 16 (λ s. is_set (get_or columns i 0) s && is_set (get_or columns k 0) s))
      (λ e.
      let p = some_elim 17 (λ s. R s (i + 1) && R s (k + 1)) e in
      let a = and_left (R p.at (i + 1)) _ p.passed in
      let w = (mark_has columns p.at (i + 1) a).segment in
      some_intro 16 (λ s. is_set (get_or columns i 0) s && is_set (get_or columns k 0) s) (p.at - 1) (omega (arith, w.least, w.most))
      (and_true (bit_of_lem columns p.at i a) (bit_of_lem columns p.at k (and_right (R p.at (i + 1)) _ p.passed))))
      (λ e.
      let p = some_elim 16 (λ s. is_set (get_or columns i 0) s && is_set (get_or columns k 0) s) e in
      some_intro 17 (λ s. R s (i + 1) && R s (k + 1)) (p.at + 1) (omega (arith, p.inside))
      (and_true (mark_of columns p.at i p.inside hi (and_left (is_set (get_or columns i 0) p.at) _ p.passed))
      (mark_of columns p.at k p.inside hk (and_right (is_set (get_or columns i 0) p.at) _ p.passed))))

  first_is : (spots : List ℕ) (n : ℕ) → Placed R m n spots → last_of (places R m n) + 1 ≡ first_for spots n
  unfolding first_for places
  first_is spots zero p = refl
  first_is spots (suc n) p =
      let e : suc n - 1 ≡ n = omega arith in
      ap (λ k. k + 1) (last_is R m n ∙ sym (place_at R m (suc n) n (omega arith)) ∙ sym (p.each n (omega arith)) ∙ ap (λ k. get_or spots k 0) (sym e))
      ∙ first_some spots (suc n) (λ z. omega (arith, z))

  taken_is : (spots : List ℕ) (n : ℕ) → n < 32 → Placed R m n spots → (x : ℕ) → taken R m (places R m n) x ≡ taken_at columns spots n m x
  unfolding taken taken_at
  taken_is spots n h p x =
      ap (λ k. some_below k (λ i. sharing R (i + 1) (k + 1) && eqb (place_of (places R m n) (i + 1) % m) (x % m))) (places_length R m n)
      ∙ some_same n (λ i. sharing R (i + 1) (n + 1) && eqb (place_of (places R m n) (i + 1) % m) (x % m))
      (λ i. meet (get_or columns i 0) (get_or columns n 0) && eqb (get_or spots i 0 % m) (x % m))
      (λ i l. ap₂ (λ (a b : Bool). a && b) (words_share i n (omega arith) h) (ap (λ k. eqb (k % m) (x % m)) (sym (p.each i l))))

  next_is : (spots : List ℕ) (n : ℕ) → n < 32 → Placed R m n spots → next_place R m (places R m n) ≡ place_for columns spots n m
  unfolding next_place place_for
  next_is spots n h p = ap₂ (λ (a : ℕ) (f : ℕ → Bool). least_from m a f) (first_is spots n p) (λ i x. not (taken_is spots n h p x i))

  place_at_is : (n : ℕ) → place_at_lem R m n ≡ next_place R m (places R m n)
  unfolding place_at_lem
  place_at_is n = refl

  pub placed_more : (spots : List ℕ) (n place : ℕ) → n < 32 → Placed R m n spots → place ≡ place_for columns spots n m → Placed R m (n + 1) (set spots n place)
  placed_more spots n place h p e = record { size = length-set spots n place ∙ p.size; each = below_more _ n before here }
    where
      before : (i : ℕ) → i < n → get_or (set spots n place) i 0 ≡ place_of (places R m (n + 1)) (i + 1)
      before i l =
          get_or-set_other spots n i place 0 (λ z. omega (arith, z)) ∙ p.each i l ∙ place_at R m n i l
          ∙ sym (place_at R m (n + 1) i (omega arith))

      here : get_or (set spots n place) n 0 ≡ place_of (places R m (n + 1)) (n + 1)
      here =
          get_or-set_same spots n place 0 (omega (arith, p.size)) ∙ e ∙ sym (next_is spots n h p) ∙ sym (place_at_is n)
          ∙ sym (place_at R m (n + 1) n (omega arith))

  pub placed_low : (spots : List ℕ) (n place : ℕ) → n < 32 → length spots ≡ 32 → place ≤ 33 * n + 33 → first_for (set spots n place) (n + 1) ≤ 33 * (n + 1) + 1
  placed_low spots n place h z l =
      let e : n + 1 - 1 ≡ n = omega arith in
      let f = first_some (set spots n place) (n + 1) (λ k. omega arith) in
      let g : get_or (set spots n place) (n + 1 - 1) 0 ≡ place = ap (λ k. get_or (set spots n place) k 0) e ∙ get_or-set_same spots n place 0 (omega arith) in
      omega (arith, f, g)
