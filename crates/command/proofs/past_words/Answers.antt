use Rattle.std.proofs.Common.{arith}
use Rattle.command.proofs.WordLaws.{passing_more, passing_end}
use Rattle.command.proofs.past_words.Goals as goal

pub returns-then-at-text : goal.returns-then-at-text
returns-then-at-text c = passing_end c.loop-passed.invariant c.if-at-text.true

pub loop-passed-preserved : goal.loop-passed-preserved
loop-passed-preserved c = passing_more _ c.loop-passed.invariant (omega arith) c.past_word-at.ensures
