-- `unit_file::reader::whole_length` meets its contract: the tables are short. Assumes nothing.
use native.Mathlib.Omega.{arith}
use lib.ListN.{get_or}
use Rattle.unit_file.proofs.PlaceLaws.{tables_most}
use Rattle.unit_file.proofs.reader.whole_length.Goals as goal

pub overflow_mul-result-3 : goal.overflow_mul-result-3
overflow_mul-result-3 c =
    let f = c.args.file.now in
    omega (arith, tables_most (get_or f 1 0) (get_or f 0 0) c.requires.segments16 c.requires.functions4)

pub overflow_add-result-2 : goal.overflow_add-result-2
overflow_add-result-2 c =
    let f = c.args.file.now in
    omega (arith, c.requires.functions4, tables_most (get_or f 1 0) (get_or f 0 0) c.requires.segments16 c.requires.functions4)
