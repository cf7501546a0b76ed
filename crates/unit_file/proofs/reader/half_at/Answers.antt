-- `unit_file::reader::half_at` meets its contract: a byte is below 256. Assumes nothing.
use Prim.Native.Nat.{◌+◌, ◌<◌}
use native.Mathlib.Omega.{arith}
use lib.ListN.{get_or}
use Rattle.unit_file.proofs.reader.half_at.Goals as goal

pub overflow_cast-low : goal.overflow_cast-low
overflow_cast-low c = omega (arith, c.shared_slice_known-1.given c.args.at)

pub overflow_cast-high : goal.overflow_cast-high
overflow_cast-high c =
    let bytes : (let a = c.args in (get_or a.file.now a.at 0 < 256) × (get_or a.file.now (a.at + 1) 0 < 256)) = let a = c.args in
    (omega (arith, c.shared_slice_known-2-1.given a.at), omega (arith, c.shared_slice_known-2-1.given (a.at + 1))) in
    let b = bytes in omega arith

pub overflow_mul-result : goal.overflow_mul-result
overflow_mul-result c =
    let bytes : (let a = c.args in (get_or a.file.now a.at 0 < 256) × (get_or a.file.now (a.at + 1) 0 < 256)) = let a = c.args in
    (omega (arith, c.shared_slice_known-2-1.given a.at), omega (arith, c.shared_slice_known-2-1.given (a.at + 1))) in
    let b = bytes in omega arith

pub overflow_add-result : goal.overflow_add-result
overflow_add-result c =
    let bytes : (let a = c.args in (get_or a.file.now a.at 0 < 256) × (get_or a.file.now (a.at + 1) 0 < 256)) = let a = c.args in
    (omega (arith, c.shared_slice_known-2-1.given a.at), omega (arith, c.shared_slice_known-2-1.given (a.at + 1))) in
    let b = bytes in omega arith
