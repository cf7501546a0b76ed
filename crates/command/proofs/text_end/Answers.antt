-- `command::text_end` meets its contract. Assumes nothing.
use Rattle.command.proofs.LineLaws.{text_none, text_return, text_whole}
use Rattle.command.proofs.text_end.Goals as goal

pub returns-then-length-eq0 : goal.returns-then-length-eq0
returns-then-length-eq0 c = text_none _ c.if-length-eq0.true

pub returns-then-line-length-eq13 : goal.returns-then-line-length-eq13
returns-then-line-length-eq13 c = text_return _ c.if-line-length-eq13.true

pub returns : goal.returns
returns c = text_whole _ c.if-line-length-eq13.false
