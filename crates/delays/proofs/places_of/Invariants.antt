-- `delays::places_of` meets its contract. The loop's invariant: the places of the columns passed are found. Assumes nothing.
use Prim.Native.Nat.{◌≤◌, ◌+◌, ◌*◌}
use Rattle.delays.specs.Inner.{column_marks, first_for, Placed}
use Rattle.delays.proofs.places_of.Given as goal

abbrev pub invariant-loop-i : goal.invariant-loop-i
invariant-loop-i l = (first_for l.spots l.i ≤ 33 * l.i + 1) × Placed (column_marks l.columns) l.latency l.i l.spots
