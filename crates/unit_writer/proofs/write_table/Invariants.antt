-- The words of the segments passed stand in front.
use Rattle.unit_file.proofs.FrontLaws.{Joined}
use Rattle.unit_file.proofs.WriteLaws.{segment_bytes}
use Rattle.unit_writer.proofs.write_table.Given as goal

abbrev pub invariant-loop-segment : goal.invariant-loop-segment
invariant-loop-segment l = Joined 0 (segment_bytes l.columns) l.initial.out l.segment l.out
