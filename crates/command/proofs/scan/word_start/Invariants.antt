-- The bytes passed are blanks.
use Rattle.command.proofs.WordLaws.{Skipped}
use Rattle.command.proofs.scan.word_start.Given as goal

abbrev pub invariant-loop-at : goal.invariant-loop-at
invariant-loop-at l = Skipped l.text l.from l.at
