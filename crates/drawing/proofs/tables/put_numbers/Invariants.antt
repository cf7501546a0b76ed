-- `drawing::tables::put_numbers` meets its contract. The loop's invariant: the numbers passed are written. Assumes nothing.
use Prim.Native.Nat.{◌*◌}
use Rattle.words.specs.Below.{join_below}
use Rattle.text.specs.Wrote.{Put}
use Rattle.drawing.specs.Inner.{number_cell}
use Rattle.drawing.proofs.tables.put_numbers.Given as goal

abbrev pub invariant-loop-column : goal.invariant-loop-column
invariant-loop-column l = Put (3 * l.column) l.initial.out l.at (join_below l.column number_cell) l.out l.end
