-- The multiples passed are 0 in the vector.
use Rattle.measures.proofs.NumberLaws.{FreeBefore}
use Rattle.measures.proofs.free_of_multiples.Given as goal

abbrev pub invariant-loop-multiple : goal.invariant-loop-multiple
invariant-loop-multiple l = FreeBefore l.vector l.m l.multiple
