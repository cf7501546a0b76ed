-- The tables of the functions passed stand from their offsets on.
use Rattle.std.proofs.Common.{◌+◌, ◌*◌}
use Rattle.unit.specs.Unit.{marked}
use Rattle.unit_file.proofs.FrontLaws.{Joined}
use Rattle.unit_file.proofs.WriteLaws.{table_at}
use Rattle.unit_writer.proofs.write_tables.Given as goal

abbrev pub invariant-loop-before : goal.invariant-loop-before
invariant-loop-before l = Joined (4 + 2 * l.functions) (table_at (marked l.u) l.segments) l.initial.out l.before l.out
