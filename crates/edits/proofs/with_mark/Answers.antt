-- `edits::with_mark` meets its contract: a word of 16 bits stays one. Assumes nothing.
use Prim.Native.Nat.{◌-◌}
use native.Mathlib.Omega.{arith}
use borrow.Author.Rules.{rules}
use Rattle.words.proofs.BitLaws.{set_lt}
use Rattle.edits.proofs.with_mark.Goals as goal

pub overflow_cast-result : goal.overflow_cast-result
overflow_cast-result c =
    let a = c.args in
    record { fits = rw c.set.ensures (set_lt 16 a.word (a.segment - 1) (omega arith) (search rules)) }
