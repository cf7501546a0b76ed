-- The bytes passed are the word's.
use Rattle.std.proofs.Common.{◌≡◌, ◌+◌, length}
use Rattle.command.specs.Inner.{word_from}
use Rattle.command.proofs.scan.word_end.Given as goal

abbrev pub invariant-loop-at : goal.invariant-loop-at
invariant-loop-at l = l.at + length (word_from l.text l.at) ≡ l.from + length (word_from l.text l.from)
