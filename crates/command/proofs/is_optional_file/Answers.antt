-- `command::is_optional_file` meets its contract. Assumes nothing.
use mathlib.Core.Path.{◌∙◌}
use Rattle.command.proofs.LineLaws.{optional_file_none, optional_file_some}
use Rattle.command.proofs.is_optional_file.Goals as goal

pub returns-then-words-count : goal.returns-then-words-count
returns-then-words-count c = optional_file_none c.args.words _ c.if-words-count.true

pub returns : goal.returns
returns c = c.is_file.ensures ∙ optional_file_some c.args.words _ c.if-words-count.false
