-- How a unit fills with the marks of a number, column by column. Assumes nothing.
use Prim.Native.Nat.{ℕ, ◌+◌, ◌-◌, ◌*◌, ◌^◌, ◌≤◌, ◌<◌}
use mathlib.Core.Path.{◌≡◌, refl, sym, ap, ◌∙◌}
use mathlib.Core.Bool.{Bool, true, false, cond, ◌&&◌}
use native.Mathlib.Nat.{lt_of_lt_of_le, mul-le-mul}
use native.Mathlib.Omega.{arith}
use lib.Dec.{eqb}
use lib.Pow.{pow_mono}
use borrow.Author.Tests.{ltb-true, lt-ltb, eqb-true, eqb-false, eq-eqb}
use Rattle.words.specs.Bits.{is_set, set_bit}
use Rattle.words.specs.Below.{word_below}
use Rattle.words.proofs.Tests.{nowhere, and_left, and_right, and_true, same_test, not_passed}
use Rattle.words.proofs.BitLaws.{set_below}
use Rattle.words.proofs.BelowLaws.{word_lt, word_set, word_one, word_none}
use Rattle.unit.specs.Table.{Table, empty}
use Rattle.unit.specs.Unit.{inside, good_counts}
use Rattle.unit.specs.Calls.{blank, unit_of, column_of}
use Rattle.unit.proofs.Laws.{within, inside_of, somewhere_of}
use Rattle.unit.proofs.TableLaws.{column_changed, InCounts, unit_of_none, unit_of_column}
use Rattle.table_numbers.specs.Tables.{small_size, small_table}
use Rattle.table_numbers.specs.Claims.{HasSize}
use Rattle.table_numbers.specs.Inner.{Sized, column_word, table_before, unit_before}
use Rattle.table_numbers.proofs.NumberLaws.{small_mark, mark_small}

pub sized : (s c : ℕ) → small_size s c ≡ true → Sized s c
sized s c e =
    let a = within s 2 (and_left (inside s 2) _ e) in
    let b = within c 6 (and_right (inside s 2) _ e) in
    record { segments1 = a.least; segments2 = a.most; columns1 = b.least; columns6 = b.most }

-- a table has at most 12 places
pub few_places : {s c : ℕ} → Sized s c → s * c ≤ 12
few_places m = mul-le-mul m.segments2 m.columns6

-- The word of a column

pub column_start : (c n k : ℕ) → 0 ≡ column_word 0 c n k
unfolding column_word word_below
column_start c n k = refl

pub column_set : (c n k i : ℕ) → i < 32 → is_set n (i * c + (k - 1)) ≡ true → set_bit (column_word i c n k) i ≡ column_word (i + 1) c n k
unfolding column_word
column_set c n k i h e = word_one i (λ j. is_set n (j * c + (k - 1))) h e

pub column_unset : (c n k i : ℕ) → is_set n (i * c + (k - 1)) ≡ false → column_word i c n k ≡ column_word (i + 1) c n k
unfolding column_word
column_unset c n k i e = word_none i (λ j. is_set n (j * c + (k - 1))) e

column_lt : (i c n k : ℕ) → column_word i c n k < 2 ^ i
unfolding column_word
column_lt i c n k = word_lt i (λ j. is_set n (j * c + (k - 1)))

pub column_small : (i c n k : ℕ) → i ≤ 16 → column_word i c n k < 2 ^ 16
column_small i c n k h = lt_of_lt_of_le (column_lt i c n k) (pow_mono h)

column_at : (s c n k i : ℕ) → i < s → is_set (column_word s c n k) i ≡ is_set n (i * c + (k - 1))
unfolding column_word
column_at s c n k i h = word_set s (λ j. is_set n (j * c + (k - 1))) i h

module _ {s c : ℕ} (m : Sized s c) (n : ℕ) where
  -- it has the marks of the table
  column_bit : (k : ℕ) → inside k c ≡ true → (y : ℕ) → inside y 16 && is_set (column_word s c n k) (y - 1) ≡ small_table s c n 1 y k
  column_bit k l y = same_test (inside y 16 && is_set (column_word s c n k) (y - 1)) (small_table s c n 1 y k) there back
    where
      there : inside y 16 && is_set (column_word s c n k) (y - 1) ≡ true → small_table s c n 1 y k ≡ true
      there e =
          let i = within y 16 (and_left (inside y 16) _ e) in
          let b = and_right (inside y 16) _ e in
          let o = set_below (column_word s c n k) s (y - 1) (column_lt s c n k) b in
          mark_small s c n 1 y k (record { tag = refl; segment = inside_of y s i.least (omega arith); column = l }) (sym (column_at s c n k (y - 1) o) ∙ b)

      back : small_table s c n 1 y k ≡ true → inside y 16 && is_set (column_word s c n k) (y - 1) ≡ true
      back e =
          let a = small_mark s c n 1 y k e in
          let i = within y s a.0.segment in
          and_true (inside_of y 16 i.least (omega (arith, m.segments2))) (column_at s c n k (y - 1) (omega arith) ∙ a.1)

  -- The table up to a column

  before_mark : (k x y z : ℕ) → table_before s c n k x y z ≡ true → (small_table s c n x y z ≡ true) × (z < k)
  unfolding table_before
  before_mark k x y z e = (and_left (small_table s c n x y z) _ e, ltb-true z k (and_right (small_table s c n x y z) _ e))

  mark_before : (k x y z : ℕ) → small_table s c n x y z ≡ true → z < k → table_before s c n k x y z ≡ true
  unfolding table_before
  mark_before k x y z e l = and_true e (lt-ltb z k l)

  of_size : (k : ℕ) → HasSize s c (table_before s c n k)
  of_size k x y z e = (small_mark s c n x y z (before_mark k x y z e).0).0

  before_start : empty ≡ table_before s c n 1
  before_start = λ i x y z. at x y z i
    where
      at : (x y z : ℕ) → false ≡ table_before s c n 1 x y z
      at x y z = sym (not_passed (table_before s c n 1 x y z) (λ e.
          let w = within z c (of_size 1 x y z e).column in
          omega (arith, (before_mark 1 x y z e).1)))

  before_more : (k : ℕ) → inside k c ≡ true → column_changed (table_before s c n k) 1 k (column_word s c n k) ≡ table_before s c n (k + 1)
  before_more k l = λ i x y z. at x y z i
    where
      at : (x y z : ℕ) → column_changed (table_before s c n k) 1 k (column_word s c n k) x y z ≡ table_before s c n (k + 1) x y z
      at x y z = go (eqb x 1 && eqb z k) refl
        where
          go : (b : Bool) → eqb x 1 && eqb z k ≡ b
              → cond b (inside y 16 && is_set (column_word s c n k) (y - 1)) (table_before s c n k x y z) ≡ table_before s c n (k + 1) x y z
          go true e =
              let p = eqb-true x 1 (and_left (eqb x 1) _ e) in
              let q = eqb-true z k (and_right (eqb x 1) _ e) in
              rw (p, q) (column_bit k l y
              ∙ same_test (small_table s c n 1 y k) (table_before s c n (k + 1) 1 y k)
              (λ h. mark_before (k + 1) 1 y k h (omega arith))
              (λ h. (before_mark (k + 1) 1 y k h).0))
          go false e =
              same_test (table_before s c n k x y z) (table_before s c n (k + 1) x y z)
              (λ h. let a = before_mark k x y z h in mark_before (k + 1) x y z a.0 (omega (arith, a.1)))
              (λ h. let a = before_mark (k + 1) x y z h in
              mark_before k x y z a.0 (below (of_size (k + 1) x y z h).tag a.1 (eqb z k) refl))
            where
              below : x ≡ 1 → z < k + 1 → (g : Bool) → eqb z k ≡ g → z < k
              below p q true g = nowhere (sym e ∙ and_true (eq-eqb x 1 p) g)
              below p q false g = let ne = eqb-false z k g in omega arith

  before_end : table_before s c n (c + 1) ≡ small_table s c n
  before_end = λ i x y z. at x y z i
    where
      at : (x y z : ℕ) → table_before s c n (c + 1) x y z ≡ small_table s c n x y z
      at x y z =
          same_test (table_before s c n (c + 1) x y z) (small_table s c n x y z)
          (λ h. (before_mark (c + 1) x y z h).0)
          (λ h. let w = within z c (small_mark s c n x y z h).0.column in mark_before (c + 1) x y z h (omega arith))

  -- The unit that was filled so far

  pub unit_start : blank 1 s c ≡ unit_before s c n 1
  unit_start = unit_of_none 1 s c (table_before s c n 1) before_start

  pub counts_good : good_counts 1 s c ≡ true
  counts_good = and_true (inside_of s 16 m.segments1 (omega (arith, m.segments2))) (inside_of c 32 m.columns1 (omega (arith, m.columns6)))

  pub size_inside : (T : Table) → HasSize s c T → InCounts 1 s c T
  size_inside T h x y z e =
      let o = h x y z e in
      let a = within y s o.segment in
      let b = within z c o.column in
      let t = o.tag in
      (somewhere_of x y z (omega arith) (omega arith) a.least (omega (arith, m.segments2)) b.least (omega (arith, m.columns6)), omega arith, a.most, b.most)

  -- one column more
  pub unit_more : (k : ℕ) → 1 ≤ k → k ≤ c → (column_of (unit_before s c n k) 1 k (column_word s c n k)).unit ≡ unit_before s c n (k + 1)
  unit_more k k1 k2 =
      let l = inside_of k c k1 k2 in
      unit_of_column 1 s c (table_before s c n k) (table_before s c n (k + 1)) 1 k (column_word s c n k) counts_good (size_inside (table_before s c n k) (of_size k))
      refl l (column_lt s c n k) (before_more k l)

  pub unit_end : unit_before s c n (c + 1) ≡ unit_of 1 s c (small_table s c n)
  unit_end = ap (unit_of 1 s c) before_end
