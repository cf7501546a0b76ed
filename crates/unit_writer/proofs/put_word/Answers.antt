-- `unit_writer::put_word` meets its contract. Assumes nothing.
use Prim.Native.Nat.{◌/◌, ◌%◌}
use native.Mathlib.Omega.{arith}
use lib.ListN.{length-set}
use Rattle.unit_file.proofs.FrontLaws.{front_four}
use borrow.Author.Rules.{rules}
use Rattle.unit_writer.proofs.put_word.Goals as goal

pub bounds-out-1 : goal.bounds-out-1
bounds-out-1 c = simp length-set (omega arith)

pub bounds-out-2 : goal.bounds-out-2
bounds-out-2 c = simp length-set (omega arith)

pub returns : goal.returns
returns c =
    let a = c.args in
    front_four a.out.now (a.word % 256) (a.word / 256 % 256) (a.word / 65536 % 256) (a.word / 16777216 % 256) (search rules)
