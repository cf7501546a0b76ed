-- The columns passed are joined.
use Rattle.unit.specs.Inner.{Beyond, Joins}
use Rattle.unit.proofs.joined_beyond.Given as goal

abbrev pub invariant-loop-column : goal.invariant-loop-column
invariant-loop-column l = Joins (Beyond l.columns l.column) l.words l.all
