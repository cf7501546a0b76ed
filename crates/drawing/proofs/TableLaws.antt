-- The cells and lines of a reservation table: how long they are, and that the words of the columns give them. Assumes nothing.
use mathlib.Core.Path.{◌≡◌, refl, sym, ap}
use mathlib.Core.Bool.{Bool, true, false}
use mathlib.Core.List.{List, [], ◌++◌}
use Prim.Native.Nat.{ℕ, ◌+◌, ◌-◌, ◌*◌, ◌/◌, ◌≤◌, ◌<◌}
use native.Mathlib.Nat.{mul-add, mul-le-mul}
use native.Mathlib.Omega.{arith}
use lib.ListN.{length, replicate, length-append, length-replicate}
use Rattle.words.specs.Below.{join_below}
use Rattle.words.proofs.JoinLaws.{join_same, join_length}
use Rattle.text.specs.Text.{ascii, decimal}
use Rattle.text.proofs.DecimalLaws.{decimal_small, decimal_step, decimal_length}
use Rattle.unit.specs.declared.FunctionUnit.{FunctionUnit}
use Rattle.unit.specs.Table.{Table}
use Rattle.unit.specs.Unit.{marked, columns_of}
use Rattle.unit.proofs.ColumnLaws.{columns_marked}
use Rattle.drawing.specs.Tables.{cell, mark_text, head_text, row_text, table_text}
use Rattle.drawing.specs.Inner.{number_cell, mark_cell, line_text, line_length, lines_text}

-- Cells

-- a number of one digit, and one of two
pub cell_one : (n : ℕ) → n < 10 → ascii "  " ++ decimal n ≡ cell (decimal n)
cell_one n h = rw (decimal_small n h)

pub cell_two : (n : ℕ) → 10 ≤ n → n < 100 → ascii " " ++ decimal n ≡ cell (decimal n)
cell_two n l h = rw (decimal_step n l (omega arith), decimal_small (n / 10) (omega arith))

pub cell_length : (text : List ℕ) → length text ≤ 3 → length (cell text) ≡ 3
cell_length text h =
    let l = length-append (replicate (3 - length text) 32) text in
    let r = length-replicate {A = ℕ} (3 - length text) 32 in
    omega (arith, l, r)

number_length : (n : ℕ) → n < 100 → length (cell (decimal n)) ≡ 3
number_length n h = cell_length (decimal n) (omega (arith, decimal_length n 2 (omega arith) (omega arith)))

mark_length : (b : Bool) → length (cell (mark_text b)) ≡ 3
mark_length true = refl
mark_length false = refl

-- Lines

pub head_all : (columns : ℕ) → cell [] ++ join_below columns number_cell ++ ascii "\n" ≡ head_text columns
unfolding head_text
head_all columns = refl

-- a cell, cells of three bytes each, and the end of the line
line_length_lem : (first : List ℕ) (columns : ℕ) (f : ℕ → List ℕ) → length first ≡ 3 → ((c : ℕ) → c < columns → length (f c) ≡ 3)
    → length (first ++ join_below columns f ++ ascii "\n") ≡ line_length columns
line_length_lem first columns f h each =
    let a = length-append (first ++ join_below columns f) (ascii "\n") in
    let b = length-append first (join_below columns f) in
    let j = join_length columns 3 f each in
    omega (arith, a, b, j)

head_length : (columns : ℕ) → columns ≤ 32 → length (head_text columns) ≡ line_length columns
unfolding head_text
head_length columns h = line_length_lem (cell []) columns number_cell refl (λ c l. number_length (c + 1) (omega arith))

module _ (T : Table) (q : ℕ) where
  row_length : (columns s : ℕ) → s < 100 → length (row_text T q columns s) ≡ line_length columns
  unfolding row_text
  row_length columns s h = line_length_lem (cell (decimal s)) columns (λ c. cell (mark_text (T q s (c + 1)))) (number_length s h) (λ c l. mark_length (T q s (c + 1)))

  -- the length of a table
  pub table_length : (segments columns : ℕ) → segments ≤ 16 → columns ≤ 32 → length (table_text T q segments columns) ≡ line_length columns * (segments + 1)
  unfolding table_text
  table_length segments columns s16 c32 =
      let a = length-append (head_text columns) (join_below segments (λ s. row_text T q columns (s + 1))) in
      let j = join_length segments (line_length columns) (λ s. row_text T q columns (s + 1)) (λ s l. row_length columns (s + 1) (omega arith)) in
      omega (arith, a, j, head_length columns c32, mul-add (line_length columns) segments 1)

-- The words of the columns

module _ (u : FunctionUnit) (q : ℕ) (q1 : 1 ≤ q) (q4 : q ≤ 4) where
  mark_same : (s c : ℕ) → s < 16 → c < 32 → mark_cell (columns_of u q) s c ≡ cell (mark_text (marked u q (s + 1) (c + 1)))
  mark_same s c s16 c32 =
      let m = columns_marked u q (s + 1) (c + 1) q1 q4 (omega arith) (omega arith) (omega arith) (omega arith) in
      let es : s + 1 - 1 ≡ s = omega arith in
      let ec : c + 1 - 1 ≡ c = omega arith in
      ap (λ b. cell (mark_text b)) (sym (rw (es, ec) at m))

  row_same : (columns s : ℕ) → columns ≤ 32 → s < 16 → line_text (columns_of u q) columns s ≡ row_text (marked u) q columns (s + 1)
  unfolding row_text
  row_same columns s c32 s16 =
      ap (λ t. cell (decimal (s + 1)) ++ t ++ ascii "\n")
      (join_same columns (mark_cell (columns_of u q) s) (λ c. cell (mark_text (marked u q (s + 1) (c + 1)))) (λ c l. mark_same s c s16 (omega arith)))

  -- a table is written from the words of the function's columns
  pub lines_same : (segments columns : ℕ) → segments ≤ 16 → columns ≤ 32
      → lines_text (columns_of u q) segments columns ≡ table_text (marked u) q segments columns
  unfolding table_text
  lines_same segments columns s16 c32 =
      ap (λ t. head_text columns ++ t)
      (join_same segments (line_text (columns_of u q) columns) (λ s. row_text (marked u) q columns (s + 1)) (λ s l. row_same columns s c32 (omega arith)))

-- a table of a unit is short
pub lines_few : (segments columns : ℕ) → segments ≤ 16 → columns ≤ 32 → line_length columns * (segments + 1) ≤ 1700
lines_few segments columns s16 c32 =
    let w : line_length columns ≤ 100 = omega arith in
    let h : segments + 1 ≤ 17 = omega arith in
    let m : line_length columns * (segments + 1) ≤ 100 * 17 = mul-le-mul w h in
    omega arith
