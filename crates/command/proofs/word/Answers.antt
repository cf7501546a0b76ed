-- `command::word` meets its contract. Assumes nothing.
use mathlib.Core.Path.{sym}
use lib.Seq.{length-take-le}
use Rattle.command.proofs.WordLaws.{word_inside}
use Rattle.command.proofs.LineLaws.{word_read}
use Rattle.command.proofs.word.Goals as goal

pub slice_bounds-text-end : goal.slice_bounds-text-end
slice_bounds-text-end c = sym (length-take-le _ _ c.text_end-end.ensures.inside)

pub slice_bounds-result-end : goal.slice_bounds-result-end
slice_bounds-result-end c = word_inside _ _ _ c.word_end-to.ensures c.word_start-from.ensures.inside

pub returns : goal.returns
returns c =
    word_read _ _ _ _ _ _ c.text_end-end.ensures c.past_words-before.ensures c.word_start-from.ensures c.word_end-to.ensures
