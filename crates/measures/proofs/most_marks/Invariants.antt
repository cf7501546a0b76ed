-- The largest number of the bits passed is kept.
use Rattle.std.proofs.Common.{◌≡◌}
use Rattle.words.specs.Below.{max_below}
use Rattle.measures.specs.Inner.{marks_at}
use Rattle.measures.proofs.most_marks.Given as goal

abbrev pub invariant-loop-bit : goal.invariant-loop-bit
invariant-loop-bit l = l.most ≡ max_below l.bit (marks_at l.columns)
