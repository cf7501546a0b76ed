-- `command::past_word` meets its contract. Assumes nothing.
use Rattle.command.proofs.WordLaws.{begins_rest}
use Rattle.command.proofs.past_word.Goals as goal

pub returns : goal.returns
returns c = begins_rest _ c.word_start-start.ensures c.word_end.ensures
