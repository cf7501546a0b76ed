-- `drawing::tables::put_rows` meets its contract. The loop's invariant: the lines of the segments passed are written. Assumes nothing.
use Prim.Native.Nat.{◌*◌}
use Rattle.words.specs.Below.{join_below}
use Rattle.text.specs.Wrote.{Put}
use Rattle.drawing.specs.Inner.{line_text, line_length}
use Rattle.drawing.proofs.tables.put_rows.Given as goal

abbrev pub invariant-loop-segment : goal.invariant-loop-segment
invariant-loop-segment l = Put (line_length l.columns * l.segment) l.initial.out l.at (join_below l.segment (line_text l.marks l.columns)) l.out l.end
