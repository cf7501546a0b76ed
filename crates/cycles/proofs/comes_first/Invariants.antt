-- `cycles::comes_first` meets its contract: so far the rotations agree, and what is left of them decides. Assumes nothing.
use Rattle.cycles.proofs.OrderLaws.{Comparing}
use Rattle.cycles.proofs.comes_first.Given as goal

abbrev pub invariant-loop-i : goal.invariant-loop-i
invariant-loop-i l = Comparing l.cycle l.one l.other l.i
