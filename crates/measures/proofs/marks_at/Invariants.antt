-- The marks of the columns passed are counted.
use Rattle.std.proofs.Common.{◌≡◌}
use Rattle.measures.proofs.NumberLaws.{marks_before}
use Rattle.measures.proofs.marks_at.Given as goal

abbrev pub invariant-loop-column : goal.invariant-loop-column
invariant-loop-column l = l.marks ≡ marks_before l.fn.columns l.bit l.column-index
