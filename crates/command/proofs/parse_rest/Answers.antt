-- `command::parse_rest` meets its contract. Assumes nothing.
use Rattle.command.proofs.LineLaws.{rest_command, rest_usage}
use Rattle.command.proofs.parse_rest.Goals as goal

pub returns-then-is_fit : goal.returns-then-is_fit
returns-then-is_fit c = rest_command c.args.entry _ c.scan_words-words.ensures c.is_fit.ensures c.if-is_fit.true

pub returns : goal.returns
returns c = rest_usage c.args.entry _ c.scan_words-words.ensures c.is_fit.ensures c.if-is_fit.false
