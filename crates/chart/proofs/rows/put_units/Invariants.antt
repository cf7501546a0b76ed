-- `chart::rows::put_units` meets its contract. The loop's invariant: the digits passed are written. Assumes nothing.
use mathlib.Core.Path.{◌≡◌}
use Rattle.words.specs.Below.{list_below}
use Rattle.text.specs.Text.{placed}
use Rattle.chart.specs.Text.{unit_digit}
use Rattle.chart.proofs.rows.put_units.Given as goal

abbrev pub invariant-loop-i : goal.invariant-loop-i
invariant-loop-i l = l.out ≡ placed l.initial.out l.at (list_below l.i unit_digit)
