-- `cycles::clear_marks` meets its contract: the marks are one part of the words, which is filled with 0. Assumes nothing.
use Rattle.cycles.proofs.MarkLaws.{marks_filled}
use Rattle.cycles.proofs.clear_marks.Goals as goal

pub returns : goal.returns
returns c = marks_filled _ _ c.requires (c.fill.ensures.after (λ y h. h))
