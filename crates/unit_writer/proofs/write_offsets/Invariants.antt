-- The offsets of the tables passed stand in front.
use Rattle.unit_file.proofs.FrontLaws.{Joined}
use Rattle.unit_file.proofs.WriteLaws.{offset_at}
use Rattle.unit_writer.proofs.write_offsets.Given as goal

abbrev pub invariant-loop-before : goal.invariant-loop-before
invariant-loop-before l = Joined 0 (offset_at l.functions l.segments) l.initial.out l.before l.out
