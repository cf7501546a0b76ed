-- `words::test` meets its contract: a 32-bit word has no 1 from index 32 on. Assumes nothing.
use mathlib.Core.Path.{sym}
use borrow.Author.Rules.{rules}
use Rattle.words.proofs.BitLaws.{bit_above, zero_unset}
use Rattle.words.proofs.test.Goals as goal

pub returns-then-index-ge32 : goal.returns-then-index-ge32
returns-then-index-ge32 c =
    let a = c.args in
    sym (zero_unset a.word a.index (bit_above a.word 32 a.index (search rules) c.if-index-ge32.true))
