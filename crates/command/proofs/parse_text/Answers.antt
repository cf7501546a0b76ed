-- `command::parse_text` meets its contract. Assumes nothing.
use mathlib.Core.Path.{sym, ◌∙◌}
use Rattle.command.proofs.WordLaws.{word_inside}
use Rattle.command.proofs.LineLaws.{said_nothing, said_comment, said_named}
use Rattle.command.proofs.parse_text.Goals as goal

pub returns-then-from-text : goal.returns-then-from-text
returns-then-from-text c = said_nothing _ _ c.word_start-from.ensures c.if-from-text.true

pub returns-then-text-from-eq35 : goal.returns-then-text-from-eq35
returns-then-text-from-eq35 c = said_comment _ _ c.word_start-from.ensures c.if-from-text.false c.if-text-from-eq35.true

pub slice_bounds-find-end : goal.slice_bounds-find-end
slice_bounds-find-end c = word_inside _ _ _ c.word_end-end.ensures c.word_start-from.ensures.inside

pub returns-in_default : goal.returns-in_default
returns-in_default c =
    said_named _ _ c.word_start-from.ensures c.if-from-text.false _ _ c.if-text-from-eq35.false c.word_end-end.ensures (sym c.in_default.is ∙ c.find-name.ensures)

pub parse_rest-requires : goal.parse_rest-requires
parse_rest-requires c = word_inside _ _ _ c.word_end-end.ensures c.word_start-from.ensures.inside

pub returns : goal.returns
returns c =
    c.parse_rest.ensures
    ∙ said_named _ _ c.word_start-from.ensures c.if-from-text.false _ _ c.if-text-from-eq35.false c.word_end-end.ensures (sym c.in-Some.is ∙ c.find-name.ensures)
