-- `plan_record::ring_byte` meets its contract. The loop's invariant: the bits passed are made. Assumes nothing.
use Rattle.plan_record.proofs.TurnLaws.{Turn}
use Rattle.plan_record.proofs.ring_byte.Given as goal

abbrev pub invariant-loop-bit : goal.invariant-loop-bit
invariant-loop-bit l = Turn l.list l.j l.bit l.byte l.passed l.start
