-- So many words are passed.
use Rattle.command.proofs.WordLaws.{Passing}
use Rattle.command.proofs.past_words.Given as goal

abbrev pub invariant-loop-passed : goal.invariant-loop-passed
invariant-loop-passed l = Passing l.text l.count l.at l._passed
