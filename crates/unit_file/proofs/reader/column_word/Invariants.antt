-- The bits of the segments passed are set.
use Rattle.std.proofs.Common.{◌≡◌}
use Rattle.unit_file.proofs.ColumnLaws.{column_up_to}
use Rattle.unit_file.proofs.reader.column_word.Given as goal

abbrev pub invariant-loop-i : goal.invariant-loop-i
invariant-loop-i l = l.marks ≡ column_up_to l.file l.first l.column l.i
