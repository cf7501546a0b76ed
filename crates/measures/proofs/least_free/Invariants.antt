-- The latencies passed were tried in vain.
use Rattle.measures.proofs.NumberLaws.{Tried}
use Rattle.measures.proofs.least_free.Given as goal

abbrev pub invariant-loop-m : goal.invariant-loop-m
invariant-loop-m l = Tried l.vector l.m
