-- `command::is_optional` meets its contract. Assumes nothing.
use Rattle.command.proofs.LineLaws.{optional_few, optional_many, optional_fit}
use Rattle.command.proofs.is_optional.Goals as goal

pub returns-then-words-count : goal.returns-then-words-count
returns-then-words-count c = optional_few c.args.words _ c.if-words-count.true

pub returns-then-words-count-gt1 : goal.returns-then-words-count-gt1
returns-then-words-count-gt1 c = optional_many c.args.words _ c.if-words-count.false c.if-words-count-gt1.true

pub returns : goal.returns
returns c = optional_fit c.args.words _ c.if-words-count.false c.if-words-count-gt1.false
