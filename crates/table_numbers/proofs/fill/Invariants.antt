-- The columns passed are filled.
use Rattle.std.proofs.Common.{◌≡◌}
use Rattle.table_numbers.specs.Inner.{unit_before}
use Rattle.table_numbers.proofs.fill.Given as goal

abbrev pub invariant-loop-column : goal.invariant-loop-column
invariant-loop-column l = l.unit ≡ unit_before l.segments l.columns l.number l.column
