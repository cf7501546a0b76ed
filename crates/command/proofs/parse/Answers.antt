-- `command::parse` meets its contract. Assumes nothing.
use mathlib.Core.Path.{sym, ◌∙◌}
use lib.Seq.{length-take-le}
use Rattle.command.proofs.LineLaws.{meaning_long, meaning_text}
use Rattle.command.proofs.parse.Goals as goal

pub returns-then-line-gt4096 : goal.returns-then-line-gt4096
returns-then-line-gt4096 c = meaning_long _ c.if-line-gt4096.true

pub slice_bounds-parse_text-end : goal.slice_bounds-parse_text-end
slice_bounds-parse_text-end c = sym (length-take-le _ _ c.text_end-end.ensures.inside)

pub returns : goal.returns
returns c = c.parse_text.ensures ∙ meaning_text _ _ c.if-line-gt4096.false c.text_end-end.ensures
