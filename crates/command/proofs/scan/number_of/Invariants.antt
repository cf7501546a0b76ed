-- The bytes passed are digits, and say the number.
use Rattle.command.proofs.NumberLaws.{Read}
use Rattle.command.proofs.scan.number_of.Given as goal

abbrev pub invariant-loop-byte : goal.invariant-loop-byte
invariant-loop-byte l = Read l.word l.byte-index l.number
