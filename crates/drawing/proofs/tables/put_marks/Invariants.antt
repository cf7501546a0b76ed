-- `drawing::tables::put_marks` meets its contract. The loop's invariant: the marks passed are written. Assumes nothing.
use Prim.Native.Nat.{◌*◌}
use Rattle.words.specs.Below.{join_below}
use Rattle.text.specs.Wrote.{Put}
use Rattle.drawing.specs.Inner.{mark_cell}
use Rattle.drawing.proofs.tables.put_marks.Given as goal

abbrev pub invariant-loop-word : goal.invariant-loop-word
invariant-loop-word l = Put (3 * l.word-index) l.initial.out l.at (join_below l.word-index (mark_cell l.fn.marks l.segment)) l.out l.end
