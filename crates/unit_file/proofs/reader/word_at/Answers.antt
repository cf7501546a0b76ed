-- `unit_file::reader::word_at` meets its contract: a half is below 2 ^ 16. Assumes nothing.
use Prim.Native.Nat.{◌+◌}
use native.Mathlib.Omega.{arith}
use Rattle.unit_file.proofs.reader.word_at.Goals as goal

pub overflow_mul-result : goal.overflow_mul-result
overflow_mul-result c =
    let i = c.args.at + 2 in
    omega (arith, c.half_at-2.ensures, c.shared_slice_known-1.given i, c.shared_slice_known-1.given (i + 1))

pub overflow_add-result : goal.overflow_add-result
overflow_add-result c =
    let i = c.args.at in
    omega (arith, c.half_at.ensures, c.half_at-2.ensures, c.shared_slice_known-1.given i, c.shared_slice_known-1.given (i + 1), c.shared_slice_known-1.given (i + 2), c.shared_slice_known-1.given (i + 2 + 1))
