-- `delays::moved_unit` meets its contract. The loop's invariant: the marks of the columns passed are moved. Assumes nothing.
use mathlib.Core.Path.{◌≡◌}
use Rattle.unit.specs.Calls.{unit_of}
use Rattle.delays.specs.Delays.{places, moved_table}
use Rattle.delays.specs.Inner.{column_marks}
use Rattle.delays.proofs.moved_unit.Given as goal

abbrev pub invariant-loop-i : goal.invariant-loop-i
invariant-loop-i l = l.unit ≡ unit_of 1 l.segments l.width (moved_table (column_marks l.columns) (places (column_marks l.columns) l.latency l.i))
