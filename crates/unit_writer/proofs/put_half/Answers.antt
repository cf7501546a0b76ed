-- `unit_writer::put_half` meets its contract. Assumes nothing.
use Prim.Native.Nat.{◌/◌, ◌%◌}
use Rattle.unit_file.proofs.FrontLaws.{front_two}
use borrow.Author.Rules.{rules}
use Rattle.unit_writer.proofs.put_half.Goals as goal

pub returns : goal.returns
returns c = let a = c.args in front_two a.out.now (a.half % 256) (a.half / 256 % 256) (search rules)
