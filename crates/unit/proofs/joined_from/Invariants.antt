-- The words passed are joined.
use Rattle.unit.specs.Inner.{Between, Joins}
use Rattle.unit.proofs.joined_from.Given as goal

abbrev pub invariant-loop-i : goal.invariant-loop-i
invariant-loop-i l = Joins (Between l.from l.i) l.words l.all
