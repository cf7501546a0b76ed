-- The columns passed are written.
use Rattle.std.proofs.Common.{◌-◌}
use Rattle.words.specs.Below.{list_below}
use Rattle.text.specs.Wrote.{Wrote}
use Rattle.text.proofs.RowLaws.{column}
use Rattle.column_text.proofs.write_columns.Given as goal

abbrev pub invariant-loop-index : goal.invariant-loop-index
invariant-loop-index l = Wrote l.initial.out l.at (list_below (l.columns - l.index) (column l.columns l.word)) l.out l.end
