-- How a unit fills with the marks of a file, column by column and function by function. Assumes nothing.
use Prim.Native.Nat.{ℕ, ◌+◌, ◌-◌, ◌≤◌, ◌<◌}
use mathlib.Core.Path.{◌≡◌, refl, sym, ap, ◌∙◌}
use mathlib.Core.Logic.{◌⊎◌, inl, inr, ⊎_elim}
use mathlib.Core.Bool.{Bool, true, false, cond, ◌&&◌}
use mathlib.Core.List.{List}
use native.Mathlib.Omega.{arith}
use borrow.Author.Tests.{ltb-true, lt-ltb, eqb-true, eqb-false, eq-eqb}
use lib.Dec.{ltb, eqb}
use Rattle.words.specs.Bits.{is_set}
use Rattle.words.proofs.Tests.{nowhere, and_left, and_right, and_true, or_cases, or_true_left, or_true_right, same_test, not_passed}
use Rattle.unit.specs.Table.{empty}
use Rattle.unit.specs.Unit.{inside, good_counts}
use Rattle.unit.specs.Calls.{blank, unit_of, column_of}
use Rattle.unit.proofs.Laws.{inside_of, somewhere_of}
use Rattle.unit.proofs.TableLaws.{column_changed, InCounts, unit_of_none, unit_of_column}
use Rattle.unit_file.specs.Read.{functions_in, segments_in, columns_in, file_table}
use Rattle.unit_file.specs.InnerRead.{Counted, Clean, TagIn, ColumnIn, column_word, table_before, unit_before}
use Rattle.unit_file.proofs.ColumnLaws.{column_word_lt, column_word_bit}
use Rattle.unit_file.proofs.ReadLaws.{FileMark, file_mark, mark_file, clean_columns}

-- The table that was read so far

before_mark : (file : List ℕ) (k c x y z : ℕ) → table_before file k c x y z ≡ true → FileMark file x y z
unfolding table_before
before_mark file k c x y z e = file_mark file x y z (and_left (file_table file x y z) _ e)

-- a mark of it is one of a tag before k, or of tag k in a column before c
before_cases : (file : List ℕ) (k c x y z : ℕ) → table_before file k c x y z ≡ true → (x < k) ⊎ ((x ≡ k) × (z < c))
unfolding table_before
before_cases file k c x y z e =
    ⊎_elim (λ a. inl (ltb-true x k a))
    (λ b. inr (eqb-true x k (and_left (eqb x k) _ b), ltb-true z c (and_right (eqb x k) _ b)))
    (or_cases (ltb x k) (eqb x k && ltb z c) (and_right (file_table file x y z) _ e))

before_tag : (file : List ℕ) (k c x y z : ℕ) → FileMark file x y z → x < k → table_before file k c x y z ≡ true
unfolding table_before
before_tag file k c x y z m l =
    and_true (mark_file file x y z m) (or_true_left (ltb x k) (eqb x k && ltb z c) (lt-ltb x k l))

before_column : (file : List ℕ) (k c x y z : ℕ) → FileMark file x y z → x ≡ k → z < c → table_before file k c x y z ≡ true
unfolding table_before
before_column file k c x y z m e l =
    and_true (mark_file file x y z m) (or_true_right (ltb x k) (eqb x k && ltb z c) (and_true (eq-eqb x k e) (lt-ltb z c l)))

-- at the start there is none
before_start : (file : List ℕ) → empty ≡ table_before file 1 1
before_start file = λ i x y z. at x y z i
  where
    at : (x y z : ℕ) → false ≡ table_before file 1 1 x y z
    at x y z = sym (not_passed (table_before file 1 1 x y z) (λ e.
        let m = before_mark file 1 1 x y z e in
        ⊎_elim (λ a. omega (arith, m.tag.least)) (λ b. omega (arith, m.column.least, b.1)) (before_cases file 1 1 x y z e)))

-- one column more
before_more : (file : List ℕ) → Counted file → (k c : ℕ) → TagIn file k → ColumnIn file c
    → column_changed (table_before file k c) k c (column_word file k c) ≡ table_before file k (c + 1)
before_more file n k c t l = λ i x y z. at x y z i
  where
    at : (x y z : ℕ) → column_changed (table_before file k c) k c (column_word file k c) x y z ≡ table_before file k (c + 1) x y z
    at x y z = go (eqb x k && eqb z c) refl
      where
        go : (b : Bool) → eqb x k && eqb z c ≡ b
            → cond b (inside y 16 && is_set (column_word file k c) (y - 1)) (table_before file k c x y z) ≡ table_before file k (c + 1) x y z
        go true e =
            let p = eqb-true x k (and_left (eqb x k) _ e) in
            let q = eqb-true z c (and_right (eqb x k) _ e) in
            rw (p, q) (column_word_bit file n k c t l y
            ∙ same_test (file_table file k y c) (table_before file k (c + 1) k y c)
            (λ h. before_column file k (c + 1) k y c (file_mark file k y c h) refl (omega arith))
            (λ h. mark_file file k y c (before_mark file k (c + 1) k y c h)))
        go false e =
            same_test (table_before file k c x y z) (table_before file k (c + 1) x y z)
            (λ h. let m = before_mark file k c x y z h in
            ⊎_elim (before_tag file k (c + 1) x y z m) (λ b. before_column file k (c + 1) x y z m b.0 (omega (arith, b.1))) (before_cases file k c x y z h))
            (λ h. let m = before_mark file k (c + 1) x y z h in
            ⊎_elim (before_tag file k c x y z m)
            (λ b. before_column file k c x y z m b.0 (below b.0 b.1 (eqb z c) refl))
            (before_cases file k (c + 1) x y z h))
          where
            below : x ≡ k → z < c + 1 → (g : Bool) → eqb z c ≡ g → z < c
            below p q true g = nowhere (sym e ∙ and_true (eq-eqb x k p) g)
            below p q false g = let ne = eqb-false z c g in omega arith

-- a function's last column is followed by the next function's first
before_next : (file : List ℕ) → Clean file → (k : ℕ) → table_before file k (columns_in file + 1) ≡ table_before file (k + 1) 1
before_next file d k = λ i x y z. at x y z i
  where
    at : (x y z : ℕ) → table_before file k (columns_in file + 1) x y z ≡ table_before file (k + 1) 1 x y z
    at x y z =
        same_test (table_before file k (columns_in file + 1) x y z) (table_before file (k + 1) 1 x y z)
        (λ h. let m = before_mark file k (columns_in file + 1) x y z h in
        before_tag file (k + 1) 1 x y z m (⊎_elim (λ a. omega arith) (λ b. omega (arith, b.0)) (before_cases file k (columns_in file + 1) x y z h)))
        (λ h. let m = before_mark file (k + 1) 1 x y z h in
        let l = clean_columns file d x y z m in
        ⊎_elim (λ a. one m l (eqb x k) refl a) (λ b. absurd (omega (arith, b.1, m.column.least))) (before_cases file (k + 1) 1 x y z h))
      where
        one : FileMark file x y z → z ≤ columns_in file → (g : Bool) → eqb x k ≡ g → x < k + 1 → table_before file k (columns_in file + 1) x y z ≡ true
        one m l true g a = before_column file k (columns_in file + 1) x y z m (eqb-true x k g) (omega arith)
        one m l false g a = let ne = eqb-false x k g in before_tag file k (columns_in file + 1) x y z m (omega arith)

-- after the last function it is the file's
before_end : (file : List ℕ) → table_before file (functions_in file + 1) 1 ≡ file_table file
before_end file = λ i x y z. at x y z i
  where
    at : (x y z : ℕ) → table_before file (functions_in file + 1) 1 x y z ≡ file_table file x y z
    at x y z =
        same_test (table_before file (functions_in file + 1) 1 x y z) (file_table file x y z)
        (λ h. mark_file file x y z (before_mark file (functions_in file + 1) 1 x y z h))
        (λ h. let m = file_mark file x y z h in before_tag file (functions_in file + 1) 1 x y z m (omega (arith, m.tag.most)))

-- The unit that was filled so far

pub unit_start : (file : List ℕ) → blank (functions_in file) (segments_in file) (columns_in file) ≡ unit_before file 1 1
unit_start file =
    unit_of_none (functions_in file) (segments_in file) (columns_in file) (table_before file 1 1) (before_start file)

module _ (file : List ℕ) (d : Clean file) where
  before_inside : (k c : ℕ) → InCounts (functions_in file) (segments_in file) (columns_in file) (table_before file k c)
  before_inside k c x y z e =
      let m = before_mark file k c x y z e in
      let a = m.tag in
      let b = m.segment in
      let g = m.column in
      let n = d.whole.counts in
      (somewhere_of x y z a.least (omega arith) b.least (omega arith) g.least g.most, a.most, b.most, clean_columns file d x y z m)

  counts_good : good_counts (functions_in file) (segments_in file) (columns_in file) ≡ true
  counts_good =
      let n = d.whole.counts in
      and_true (inside_of (functions_in file) 4 n.functions1 n.functions4)
      (and_true (inside_of (segments_in file) 16 n.segments1 n.segments16) (inside_of (columns_in file) 32 n.columns1 n.columns32))

  -- one column more
  pub unit_more : (k c : ℕ) → TagIn file k → ColumnIn file c
      → (column_of (unit_before file k c) k c (column_word file k c)).unit ≡ unit_before file k (c + 1)
  unit_more k c t l =
      unit_of_column (functions_in file) (segments_in file) (columns_in file) (table_before file k c) (table_before file k (c + 1)) k c (column_word file k c) counts_good
      (before_inside k c) (inside_of k (functions_in file) t.least t.most) (inside_of c (columns_in file) l.least l.most) (column_word_lt file k c)
      (before_more file d.whole.counts k c t l)

  -- one function more
  pub unit_next : (k : ℕ) → unit_before file k (columns_in file + 1) ≡ unit_before file (k + 1) 1
  unit_next k = ap (unit_of (functions_in file) (segments_in file) (columns_in file)) (before_next file d k)

pub unit_end : (file : List ℕ) → unit_before file (functions_in file + 1) 1 ≡ unit_of (functions_in file) (segments_in file) (columns_in file) (file_table file)
unit_end file = ap (unit_of (functions_in file) (segments_in file) (columns_in file)) (before_end file)
