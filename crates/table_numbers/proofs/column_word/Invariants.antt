-- The bits of the segments passed are set.
use Rattle.std.proofs.Common.{◌≡◌}
use Rattle.table_numbers.specs.Inner.{column_word}
use Rattle.table_numbers.proofs.column_word.Given as goal

abbrev pub invariant-loop-i : goal.invariant-loop-i
invariant-loop-i l = l.marks ≡ column_word l.i l.columns l.number l.column
