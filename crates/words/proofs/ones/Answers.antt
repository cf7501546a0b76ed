-- `words::ones` meets its contract: the machine's count is the number of indices whose bit is 1. Assumes nothing.
use borrow.Author.Rules.{rules}
use Rattle.words.proofs.BelowLaws.{ones_count}
use Rattle.words.proofs.ones.Goals as goal

pub returns : goal.returns
returns c = ones_count 32 c.args.word (search rules)
