-- `unit_file::reader::table_at` meets its contract: the tables are short. Assumes nothing.
use Prim.Native.Nat.{◌-◌}
use native.Mathlib.Omega.{arith}
use lib.ListN.{get_or}
use Rattle.unit_file.proofs.PlaceLaws.{tables_most}
use Rattle.unit_file.proofs.reader.table_at.Goals as goal

pub overflow_mul-result-3 : goal.overflow_mul-result-3
overflow_mul-result-3 c =
    omega (arith, tables_most (get_or c.args.file.now 1 0) (c.args.tag - 1) c.requires.0.segments16 (omega (arith, c.requires.0.functions4, c.requires.1.most)))

pub overflow_add-result-2 : goal.overflow_add-result-2
overflow_add-result-2 c =
    omega (arith, c.requires.0.functions4, tables_most (get_or c.args.file.now 1 0) (c.args.tag - 1) c.requires.0.segments16 (omega (arith, c.requires.0.functions4, c.requires.1.most)))
