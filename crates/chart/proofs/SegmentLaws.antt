-- The lines of the segments, written after the row of starts, which they read. Assumes nothing.
use Prim.Native.Nat.{ℕ, ◌+◌, ◌≤◌, ◌<◌}
use mathlib.Core.Path.{◌≡◌, refl, ap, ◌∙◌}
use mathlib.Core.Bool.{not}
use mathlib.Core.List.{List, ◌++◌}
use native.Mathlib.Omega.{arith}
use lib.Dec.{eqb}
use lib.ListN.{length, get_or}
use Rattle.words.specs.Below.{list_below}
use Rattle.words.proofs.BelowLaws.{count_same}
use Rattle.words.proofs.ListLaws.{list_length, list_same}
use Rattle.text.specs.Text.{decimal, placed}
use Rattle.text.specs.Wrote.{Put}
use Rattle.text.proofs.BoundedLaws.{put_more}
use Rattle.chart.specs.Cells.{none}
use Rattle.chart.specs.Text.{at_left, busy, busy_text, segment_line}
use Rattle.chart.specs.Inner.{marks_in, row_in, cells_in}
use Rattle.chart.proofs.CellLaws.{cell_same}
use Rattle.chart.proofs.LineLaws.{put_before}

-- the same cells give the same line
pub segment_same : (n s : ℕ) (f h : ℕ → ℕ) → ((i : ℕ) → i < n → f i ≡ h i) → segment_line n f s ≡ segment_line n h s
unfolding segment_line
segment_same n s f h e =
    let cells = list_same n f h e in
    let count : busy n f ≡ busy n h =
    count_same n (λ i. not (eqb (f i) none)) (λ i. not (eqb (h i) none)) (λ i l. ap (λ x. not (eqb x none)) (e i l)) in
    λ k. at_left 8 (decimal s) ++ cells k ++ busy_text (count k) n

module _ (from n : ℕ) (marks : List ℕ) (columns : ℕ) where
  -- cells go by the row of starts alone
  pub cells_same : (a b : List ℕ) (segment : ℕ) → ((i : ℕ) → i < n → get_or a (from + i) 0 ≡ get_or b (from + i) 0)
      → (i : ℕ) → i < n → cells_in a from marks columns segment i ≡ cells_in b from marks columns segment i
  cells_same a b segment e i h =
      cell_same (marks_in marks segment) (marks_in marks segment) (row_in a from) (row_in b from) i columns (λ c k. refl) (λ j k. e j (omega arith))

  pub line_same : (a b : List ℕ) (segment s : ℕ) → ((i : ℕ) → i < n → get_or a (from + i) 0 ≡ get_or b (from + i) 0)
      → segment_line n (cells_in a from marks columns segment) s ≡ segment_line n (cells_in b from marks columns segment) s
  line_same a b segment s e = segment_same n s _ _ (cells_same a b segment e)

  -- the line in parts, by another list of bytes with the same row
  pub segment_all : (a b : List ℕ) (segment s count : ℕ) → count ≡ busy n (cells_in a from marks columns segment)
      → ((i : ℕ) → i < n → get_or a (from + i) 0 ≡ get_or b (from + i) 0)
      → at_left 8 (decimal s) ++ list_below n (cells_in a from marks columns segment) ++ busy_text count n ≡ segment_line n (cells_in b from marks columns segment) s
  unfolding segment_line
  segment_all a b segment s count c e =
      ap (λ k. at_left 8 (decimal s) ++ list_below n (cells_in a from marks columns segment) ++ busy_text k n) c ∙ line_same a b segment s e

  module _ {m : ℕ} {before : List ℕ} {at : ℕ} {text mid : List ℕ} {e : ℕ} (p : Put m before at text mid e) (h : from + n ≤ at) where
    -- what is put after the row leaves it
    pub row_kept : (i : ℕ) → i < n → get_or mid (from + i) 0 ≡ get_or before (from + i) 0
    row_kept i l = put_before (from + i) p (omega arith)

    -- after the name the cells, by the row that was there before the name
    pub cells_put : (segment : ℕ) (after : List ℕ) → after ≡ placed mid e (list_below n (cells_in mid from marks columns segment)) → e + n ≤ length mid
        → Put (m + n) before at (text ++ list_below n (cells_in mid from marks columns segment)) after (e + n)
    cells_put segment after q room = put_more p (record {
      wrote = record {
        bytes = q;
        next = omega (arith, list_length n (cells_in mid from marks columns segment));
        room = omega (arith, list_length n (cells_in mid from marks columns segment));
      };
      few = omega arith;
    })
