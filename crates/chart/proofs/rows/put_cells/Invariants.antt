-- `chart::rows::put_cells` meets its contract. The loop's invariant: the cells passed are written, and counted where they have a task. Assumes nothing.
use mathlib.Core.Path.{◌≡◌}
use Rattle.words.specs.Below.{list_below}
use Rattle.text.specs.Text.{placed}
use Rattle.chart.specs.Inner.{cells_in}
use Rattle.chart.specs.Text.{busy}
use Rattle.chart.proofs.rows.put_cells.Given as goal

abbrev pub invariant-loop-i : goal.invariant-loop-i
invariant-loop-i l = (l.count ≡ busy l.i (cells_in l.initial.out l.from l.marks l.columns l.segment)) × (l.out ≡ placed l.initial.out l.at (list_below l.i (cells_in l.initial.out l.from l.marks l.columns l.segment)))
