-- `chart::rows::put_segments` meets its contract. The loop's invariant: the lines of the segments passed are written. Assumes nothing.
use Prim.Native.Nat.{◌*◌}
use Rattle.text.specs.Wrote.{Put}
use Rattle.chart.specs.Inner.{lines_text, line_length, row_from}
use Rattle.chart.proofs.rows.put_segments.Given as goal

abbrev pub invariant-loop-segment : goal.invariant-loop-segment
invariant-loop-segment l = Put (line_length l.units * l.segment) l.initial.out l.at (lines_text l.initial.out (row_from l.units) l.marks l.columns l.units l.segment) l.out l.end
