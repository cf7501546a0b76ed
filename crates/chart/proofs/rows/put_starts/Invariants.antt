-- `chart::rows::put_starts` meets its contract. The loop's invariant: the units passed are played, and their bytes written. Assumes nothing.
use mathlib.Core.Path.{◌≡◌}
use Rattle.words.specs.Below.{list_below}
use Rattle.text.specs.Text.{placed}
use Rattle.chart.specs.Cells.{tasks_before, start_cell}
use Rattle.chart.proofs.CellLaws.{At}
use Rattle.chart.proofs.rows.put_starts.Given as goal

abbrev pub invariant-loop-i : goal.invariant-loop-i
invariant-loop-i l = At l.u l.plan l.position l.bank l.i × (l.tasks ≡ tasks_before l.u l.plan l.i) × (l.out ≡ placed l.initial.out l.at (list_below l.i (start_cell l.u l.plan)))
