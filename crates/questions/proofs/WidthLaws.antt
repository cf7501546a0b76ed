-- The width of a matrix, found row by row. Assumes nothing.
use mathlib.Core.Path.{◌≡◌}
use Prim.Native.Nat.{ℕ, ◌+◌, ◌≤◌, ◌<◌}
use native.Mathlib.Omega.{arith}
use Rattle.words.specs.Below.{max_below}
use Rattle.words.proofs.BelowLaws.{max_more, max_most}
use Rattle.unit.specs.Table.{Table}
use Rattle.collision.specs.Vector.{row_word}
use Rattle.diagram.specs.Diagram.{width}
use Rattle.diagram.proofs.WidthLaws.{width_le}
use Rattle.questions.specs.Replies.{matrix_width}

-- the width of row i + 1 of M_r
abbrev pub row_width : Table → ℕ → ℕ → ℕ
row_width T r i = width (row_word T (i + 1) r)

module _ (T : Table) (r : ℕ) where
  -- the widest of the first rows is kept, or the next is wider
  pub widest_kept : (i : ℕ) → row_width T r i ≤ max_below i (row_width T r) → max_below i (row_width T r) ≡ max_below (i + 1) (row_width T r)
  widest_kept i h = omega (arith, max_more i (row_width T r))

  pub widest_new : (i : ℕ) → max_below i (row_width T r) < row_width T r i → row_width T r i ≡ max_below (i + 1) (row_width T r)
  widest_new i h = omega (arith, max_more i (row_width T r))

  -- no row has more than 32 columns
  pub matrix_most : matrix_width T r ≤ 32
  unfolding matrix_width
  matrix_most = max_most 4 (row_width T r) 32 (λ i l. width_le (row_word T (i + 1) r))
