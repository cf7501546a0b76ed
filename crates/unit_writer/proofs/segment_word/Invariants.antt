-- The bits of the columns passed are noted.
use Rattle.std.proofs.Common.{◌≡◌}
use Rattle.words.specs.Below.{word_below}
use Rattle.unit_file.specs.InnerWrite.{column_mark}
use Rattle.unit_writer.proofs.segment_word.Given as goal

abbrev pub invariant-loop-column : goal.invariant-loop-column
invariant-loop-column l = l.word ≡ word_below l.column (column_mark l.fn.columns l.segment)
