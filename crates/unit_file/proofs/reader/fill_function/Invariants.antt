-- The columns passed are filled.
use Rattle.std.proofs.Common.{◌≡◌}
use Rattle.unit_file.specs.InnerRead.{unit_before}
use Rattle.unit_file.proofs.reader.fill_function.Given as goal

abbrev pub invariant-loop-column : goal.invariant-loop-column
invariant-loop-column l = l.unit ≡ unit_before l.file l.tag l.column
