-- The totals of the two smallest sizes, over all rivals of every table's best cycle.
use Rattle.std.specs.Prelude.{ℕ, ◌≡◌}
use Rattle.table_totals.specs.declared.SizeTotals.{SizeTotals}
use Rattle.table_totals.specs.Totals.{TotalsOf}

-- a size has these totals and no others
pub record TotalsAre (s c : ℕ) (t : SizeTotals) : Type 0 where
  pub are : TotalsOf s c t
  pub only : (u : SizeTotals) → TotalsOf s c u → u ≡ t

-- so many tables, so many of them at the bound, the largest average, and the first number that has it
abbrev pub totalling : ℕ → ℕ → ℕ → ℕ → ℕ → SizeTotals
totalling n reaching p q first = record { tables = n; reaching = reaching; numerator = p; denominator = q; first = first }

-- one segment and one column: 2 tables, both at the bound, largest 1/1, which number 0 has first
abbrev pub OneColumn : Type 0
OneColumn = TotalsAre 1 1 (totalling 2 2 1 1 0)

-- one segment and two columns: 4 tables, all at the bound, largest 2/1, which number 3, with both marks, has first
abbrev pub TwoColumns : Type 0
TwoColumns = TotalsAre 1 2 (totalling 4 4 2 1 3)
