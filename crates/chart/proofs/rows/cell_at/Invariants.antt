-- `chart::rows::cell_at` meets its contract. The loop's invariant: the cell by the columns passed. Assumes nothing.
use mathlib.Core.Path.{◌≡◌}
use Rattle.chart.specs.Cells.{cell_of}
use Rattle.chart.specs.Inner.{marks_in, row_in}
use Rattle.chart.proofs.rows.cell_at.Given as goal

abbrev pub invariant-loop-c : goal.invariant-loop-c
invariant-loop-c l = l.cell ≡ cell_of (marks_in l.fn.marks l.segment) (row_in l.bytes l.from) l.i l.c
