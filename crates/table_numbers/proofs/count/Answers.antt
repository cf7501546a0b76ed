-- `table_numbers::count` meets its contract: at most 12 bits are shifted in. Assumes nothing.
use Prim.Native.Nat.{◌*◌}
use native.Mathlib.Omega.{arith}
use Rattle.words.proofs.Tests.{on, off}
use Rattle.words.proofs.BitLaws.{shifted_one}
use Rattle.table_numbers.proofs.FillLaws.{sized, few_places}
use Rattle.table_numbers.proofs.count.Goals as goal

pub returns-then-not-is_size : goal.returns-then-not-is_size
returns-then-not-is_size c = simp (off c.if-not-is_size.true-raw c.is_size.ensures)

pub overflow_mul-result : goal.overflow_mul-result
overflow_mul-result c =
    let a = c.args in
    let f = few_places (sized a.segments a.columns (on c.if-not-is_size.false-raw c.is_size.ensures)) in
    omega arith

pub overflow_shl-result : goal.overflow_shl-result
overflow_shl-result c =
    let a = c.args in
    let f = few_places (sized a.segments a.columns (on c.if-not-is_size.false-raw c.is_size.ensures)) in
    omega arith

pub returns : goal.returns
returns c =
    let a = c.args in
    let s = on c.if-not-is_size.false-raw c.is_size.ensures in
    let f = few_places (sized a.segments a.columns s) in
    rw s (shifted_one (a.segments * a.columns) 32 (omega arith))
