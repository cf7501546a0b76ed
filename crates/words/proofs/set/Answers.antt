-- `words::set` meets its contract: a shift of 1 by an index below 32 is that power of two. Assumes nothing.
use borrow.Author.Tests.{lt-ltb, le-ltb}
use Rattle.words.specs.Bits.{set_bit}
use Rattle.words.proofs.BitLaws.{shifted_one}
use Rattle.words.proofs.set.Goals as goal

pub returns-then-index-ge32 : goal.returns-then-index-ge32
unfolding set_bit
returns-then-index-ge32 c = simp (le-ltb _ _ c.if-index-ge32.true)

pub returns : goal.returns
unfolding set_bit
returns c = simp (lt-ltb _ _ c.if-index-ge32.false, shifted_one c.args.index 32 c.if-index-ge32.false)
