-- `table_totals::reduce` meets its contract. The loop's invariant: no denominator passed makes S × q a multiple of K; K itself does. Assumes nothing.
use Prim.Native.Nat.{◌-◌}
use Rattle.table_totals.proofs.FractionLaws.{Passed}
use Rattle.table_totals.proofs.reduce.Given as goal

abbrev pub invariant-loop-denominator : goal.invariant-loop-denominator
invariant-loop-denominator l = Passed l.sum l.count l.denominator

abbrev pub decreases-loop-denominator : goal.decreases-loop-denominator
decreases-loop-denominator l = l.count - l.denominator
