-- `unit_writer::table_start` meets its contract: the sums are small. Assumes nothing.
use Prim.Native.Nat.{◌*◌, ◌≤◌}
use native.Mathlib.Omega.{arith}
use Rattle.unit_file.proofs.FileLaws.{tables_small}
use Rattle.unit_writer.proofs.table_start.Goals as goal

pub overflow_mul-result-3 : goal.overflow_mul-result-3
overflow_mul-result-3 c =
    let small : 4 * c.args.segments * c.args.before ≤ 256 = tables_small c.args.segments c.args.before c.requires.counts.segments c.requires.before_bound in
    omega (arith, small)

pub overflow_add-result-2 : goal.overflow_add-result-2
overflow_add-result-2 c =
    let small : 4 * c.args.segments * c.args.before ≤ 256 = tables_small c.args.segments c.args.before c.requires.counts.segments c.requires.before_bound in
    omega (arith, small)
