-- `edits::without_mark` meets its contract: a word of 16 bits stays one. Assumes nothing.
use Prim.Native.Nat.{◌-◌}
use borrow.Author.Rules.{rules}
use Rattle.words.proofs.BitLaws.{clear_lt}
use Rattle.edits.proofs.without_mark.Goals as goal

pub overflow_cast-result : goal.overflow_cast-result
overflow_cast-result c =
    let a = c.args in
    record { fits = rw c.clear.ensures (clear_lt 16 a.word (a.segment - 1) (search rules)) }
