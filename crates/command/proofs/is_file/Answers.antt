-- `command::is_file` meets its contract. Assumes nothing.
use Rattle.command.proofs.LineLaws.{file_none, file_not, file_fit}
use Rattle.command.proofs.is_file.Goals as goal

pub returns-then-words-eq0 : goal.returns-then-words-eq0
returns-then-words-eq0 c = file_none c.args.words _ c.if-words-eq0.true

pub returns-then-words-count : goal.returns-then-words-count
returns-then-words-count c = file_not c.args.words _ c.if-words-count.true

pub returns : goal.returns
returns c = file_fit c.args.words _ c.if-words-eq0.false c.if-words-count.false
