-- A row from the columns of two functions: how the loops find it, and that it is the row of the unit's table. Assumes nothing.
use Prim.Native.Nat.{ℕ, ◌+◌, ◌-◌, ◌*◌, ◌^◌, ◌<◌, ◌≤◌}
use mathlib.Core.Path.{◌≡◌, ap, ◌∙◌, sym, subst}
use mathlib.Core.Bool.{Bool, true, false, cond, not, ◌&&◌}
use mathlib.Core.List.{List}
use native.Mathlib.Omega.{arith}
use native.Mathlib.Decide.{dec_lt}
use lib.Bits.{bit_and, and_le_l}
use lib.Dec.{eqb}
use lib.ListN.{length, get_or, take, drop, replicate, length-take, length-replicate, get_or-replicate, get_or-eq_default}
use borrow.Author.Tests.{eqb-false, ne_eqb, not-true}
use Rattle.words.specs.Bits.{is_set, set_bit}
use Rattle.words.specs.Below.{some_below, word_below}
use Rattle.words.proofs.Tests.{nowhere, and_left, and_right, and_true, same_test, not_passed, by_test}
use Rattle.words.proofs.BitLaws.{bit_of_zero, zero_unset, set_and, some_bit, and_zero}
use Rattle.words.proofs.BelowLaws.{some_intro, some_elim, some_none, word_same, word_one, word_none}
use Rattle.unit.specs.declared.FunctionUnit.{FunctionUnit}
use Rattle.unit.specs.Unit.{inside, somewhere, marked, columns_of}
use Rattle.unit.proofs.Laws.{within}
use Rattle.unit.proofs.SoundLaws.{marked_place}
use Rattle.unit.proofs.ColumnLaws.{columns_marked}
use Rattle.collision.specs.Vector.{collides, row_word, meet, shared, row_of_columns}

-- Two columns

-- the AND of two columns is not 0 exactly when they have a mark in one segment
pub meet_and : (a b : ℕ) → a < 2 ^ 16 → not (eqb (bit_and a b) 0) ≡ meet a b
unfolding meet
meet_and a b h = same_test (not (eqb (bit_and a b) 0)) (some_below 16 (λ s. is_set a s && is_set b s)) there back
  where
    there : not (eqb (bit_and a b) 0) ≡ true → some_below 16 (λ s. is_set a s && is_set b s) ≡ true
    there e =
        let r = some_bit 16 (bit_and a b) (omega (arith, and_le_l a b)) (eqb-false (bit_and a b) 0 (not-true (eqb (bit_and a b) 0) e)) in
        some_intro 16 (λ s. is_set a s && is_set b s) r.at r.most (sym (set_and a b r.at) ∙ r.set)

    back : some_below 16 (λ s. is_set a s && is_set b s) ≡ true → not (eqb (bit_and a b) 0) ≡ true
    back e =
        let p = some_elim 16 (λ s. is_set a s && is_set b s) e in
        ap not (ne_eqb (bit_and a b) 0
        (λ z. (and_zero 16 a b h).0 z p.at (and_left (is_set a p.at) _ p.passed) (and_right (is_set a p.at) _ p.passed)))

-- nothing meets an empty column
pub meet_empty : (a : ℕ) → meet a 0 ≡ false
unfolding meet
meet_empty a =
    some_none 16 (λ s. is_set a s && is_set 0 s)
    (λ s h. not_passed (is_set a s && is_set 0 s)
    (λ e. nowhere (sym (zero_unset 0 s (bit_of_zero s)) ∙ and_right (is_set a s) (is_set 0 s) e)))

-- The row

-- no two columns are 32 apart
shared_far : (later earlier : List ℕ) → length earlier ≡ 32 → shared later earlier 32 ≡ false
unfolding shared
shared_far later earlier n =
    some_none 32 (λ c. meet (get_or later c 0) (get_or earlier (c + 32) 0))
    (λ c h. ap (meet (get_or later c 0)) (get_or-eq_default earlier 0 (omega (arith, n))) ∙ meet_empty (get_or later c 0))

-- the row of the latencies below t that pass a test
abbrev pub row_before : (ℕ → Bool) → ℕ → ℕ
row_before f t = word_below (t - 1) (λ k. f (k + 1))

module _ (f : ℕ → Bool) (t : ℕ) (h : 1 ≤ t) where
  here : t - 1 + 1 ≡ t
  here = omega arith

  next : t - 1 + 1 ≡ t + 1 - 1
  next = omega arith

  pub row_one : t < 32 → f t ≡ true → set_bit (row_before f t) (t - 1) ≡ row_before f (t + 1)
  row_one l e =
      word_one (t - 1) (λ k. f (k + 1)) (omega arith) (ap f here ∙ e)
      ∙ ap (λ m. word_below m (λ k. f (k + 1))) next

  pub row_zero : f t ≡ false → row_before f t ≡ row_before f (t + 1)
  row_zero e =
      word_none (t - 1) (λ k. f (k + 1)) (ap f here ∙ e)
      ∙ ap (λ m. word_below m (λ k. f (k + 1))) next

pub row_end : (later earlier : List ℕ) (f : ℕ → Bool) → length earlier ≡ 32 → ((t : ℕ) → t < 32 → f t ≡ shared later earlier t)
    → row_before f 32 ≡ row_of_columns later earlier
unfolding row_of_columns
row_end later earlier f n e =
    word_same 31 (λ k. f (k + 1)) (λ k. shared later earlier (k + 1)) (λ k h. e (k + 1) (omega arith))
    ∙ word_none 31 (λ k. shared later earlier (k + 1)) (shared_far later earlier n)

-- The unit's table

-- a function has 32 columns at most, and one outside 1 to 4 has no marks
columns_most : (u : FunctionUnit) (q : ℕ) → length (columns_of u q) ≤ 32
unfolding columns_of
columns_most u q = go (inside q 4)
  where
    go : (b : Bool) → length (cond b (take 32 (drop ((q - 1) * 32) u.marks)) (replicate 32 0)) ≤ 32
    go true = omega (arith, length-take 32 (drop ((q - 1) * 32) u.marks))
    go false = omega (arith, length-replicate {A = ℕ} 32 0)

columns_none : (u : FunctionUnit) (q c s : ℕ) → inside q 4 ≡ false → is_set (get_or (columns_of u q) c 0) s ≡ false
unfolding columns_of
columns_none u q c s e =
    ap (λ b. is_set (get_or (cond b (take 32 (drop ((q - 1) * 32) u.marks)) (replicate 32 0)) c 0) s) e
    ∙ ap (λ w. is_set w s) (go (dec_lt c 32)) ∙ zero_unset 0 s (bit_of_zero s)
  where
    go : Dec (c < 32) → ◌≡◌ {A = ℕ} (get_or (replicate 32 0) c 0) 0
    go (yes h) = get_or-replicate 32 c 0 0 h
    go (no h) = get_or-eq_default (replicate 32 0) 0 {n = c} (omega (arith, length-replicate {A = ℕ} 32 0))

-- column c + 1 at segment s + 1, of any function
pub column_mark_lem : (u : FunctionUnit) (q s c : ℕ) → s < 16 → c < 32 → is_set (get_or (columns_of u q) c 0) s ≡ marked u q (s + 1) (c + 1)
unfolding marked
column_mark_lem u q s c h l = by_test (inside q 4) some none
  where
    back : s + 1 - 1 ≡ s
    back = omega arith

    left : c + 1 - 1 ≡ c
    left = omega arith

    some : inside q 4 ≡ true → is_set (get_or (columns_of u q) c 0) s ≡ marked u q (s + 1) (c + 1)
    some e =
        let w = within q 4 e in
        let m = columns_marked u q (s + 1) (c + 1) w.least w.most (omega arith) (omega arith) (omega arith) (omega arith) in
        sym (m ∙ ap (λ i. is_set (get_or (columns_of u q) i 0) (s + 1 - 1)) left ∙ ap (is_set (get_or (columns_of u q) c 0)) back)

    none : inside q 4 ≡ false → is_set (get_or (columns_of u q) c 0) s ≡ marked u q (s + 1) (c + 1)
    none e =
        columns_none u q c s e
        ∙ sym (not_passed (marked u q (s + 1) (c + 1)) (λ m. nowhere (sym e ∙ and_left (inside q 4) _ (and_left (somewhere q (s + 1) (c + 1)) _ m))))

-- a column with a mark is one of the 32
column_below : (u : FunctionUnit) (q s c : ℕ) → is_set (get_or (columns_of u q) c 0) s ≡ true → c < 32
column_below u q s c e = go (dec_lt c 32)
  where
    go : Dec (c < 32) → c < 32
    go (yes h) = h
    go (no h) =
        nowhere (sym (zero_unset 0 s (bit_of_zero s))
        ∙ subst (λ (w : ℕ). is_set w s ≡ true) (get_or-eq_default (columns_of u q) 0 (omega (arith, columns_most u q))) e)

module _ (u : FunctionUnit) (q r t : ℕ) where
  at : ℕ → ℕ → Bool
  at s c = marked u q s c && marked u r s (c + t)

  by : ℕ → ℕ → Bool
  by c s = is_set (get_or (columns_of u q) c 0) s && is_set (get_or (columns_of u r) (c + t) 0) s

  shared_there : shared (columns_of u q) (columns_of u r) t ≡ true → collides (marked u) q r t ≡ true
  unfolding shared meet collides at by
  shared_there e =
      let c = some_elim 32 (λ c. meet (get_or (columns_of u q) c 0) (get_or (columns_of u r) (c + t) 0)) e in
      let s = some_elim 16 (by c.at) c.passed in
      let one = and_left (is_set (get_or (columns_of u q) c.at 0) s.at) _ s.passed in
      let two = and_right (is_set (get_or (columns_of u q) c.at 0) s.at) _ s.passed in
      let far = column_below u r s.at (c.at + t) two in
      let n : c.at + t + 1 ≡ c.at + 1 + t = omega arith in
      some_intro 17 (λ s. some_below 33 (at s)) (s.at + 1) (omega arith)
      (some_intro 33 (at (s.at + 1)) (c.at + 1) (omega arith)
      (and_true (sym (column_mark_lem u q s.at c.at s.inside c.inside) ∙ one)
      (ap (marked u r (s.at + 1)) (sym n) ∙ sym (column_mark_lem u r s.at (c.at + t) s.inside far) ∙ two)))

  shared_back : collides (marked u) q r t ≡ true → shared (columns_of u q) (columns_of u r) t ≡ true
  unfolding shared meet collides at by
  shared_back e =
      let s = some_elim 17 (λ s. some_below 33 (at s)) e in
      let c = some_elim 33 (at s.at) s.passed in
      let one = and_left (marked u q s.at c.at) _ c.passed in
      let two = and_right (marked u q s.at c.at) _ c.passed in
      let p = marked_place u q s.at c.at one in
      let p2 = marked_place u r s.at (c.at + t) two in
      let es : s.at - 1 + 1 ≡ s.at = omega arith in
      let ec : c.at - 1 + 1 ≡ c.at = omega arith in
      let et : c.at - 1 + t + 1 ≡ c.at + t = omega arith in
      some_intro 32 (λ c. meet (get_or (columns_of u q) c 0) (get_or (columns_of u r) (c + t) 0)) (c.at - 1) (omega arith)
      (some_intro 16 (by (c.at - 1)) (s.at - 1) (omega arith)
      (and_true (column_mark_lem u q (s.at - 1) (c.at - 1) (omega arith) (omega arith) ∙ ap (λ k. marked u q k (c.at - 1 + 1)) es ∙ ap (marked u q s.at) ec ∙ one)
      (column_mark_lem u r (s.at - 1) (c.at - 1 + t) (omega arith) (omega arith) ∙ ap (λ k. marked u r k (c.at - 1 + t + 1)) es ∙ ap (marked u r s.at) et ∙ two)))

  pub shared_collides : shared (columns_of u q) (columns_of u r) t ≡ collides (marked u) q r t
  shared_collides = same_test (shared (columns_of u q) (columns_of u r) t) (collides (marked u) q r t) shared_there shared_back

-- the row that is found from the columns of two functions is that of the unit's table
pub row_columns : (u : FunctionUnit) (q r : ℕ) → row_of_columns (columns_of u q) (columns_of u r) ≡ row_word (marked u) q r
unfolding row_of_columns row_word
row_columns u q r =
    word_same 32 (λ k. shared (columns_of u q) (columns_of u r) (k + 1)) (λ k. collides (marked u) q r (k + 1))
    (λ k h. shared_collides u q r (k + 1))
