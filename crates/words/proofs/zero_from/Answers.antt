-- `words::zero_from` meets its contract: the carry runs to the next 0. Assumes nothing.
use native.Mathlib.Omega.{arith}
use lib.Count.{trailing_le}
use lib.Pow.{shr_le}
use Prim.Native.Nat.{◌+◌, ◌/◌, ◌^◌}
use Rattle.words.proofs.ZeroLaws.{zero_beyond, zero_carried}
use borrow.Author.Rules.{rules}
use Rattle.words.proofs.zero_from.Goals as goal

pub returns-then-from-ge32 : goal.returns-then-from-ge32
returns-then-from-ge32 c = let a = c.args in zero_beyond a.word a.from c.if-from-ge32.true

pub overflow_add-result : goal.overflow_add-result
overflow_add-result c = let a = c.args in omega (arith, shr_le a.word a.from, c.ranges.word)

pub overflow_add-result-2 : goal.overflow_add-result-2
overflow_add-result-2 c = let a = c.args in omega (arith, trailing_le 64 (a.word / 2 ^ a.from + 1))

pub returns : goal.returns
returns c = let a = c.args in zero_carried a.word a.from (search rules) c.if-from-ge32.false
