-- `diagram::clear` meets its contract: the heads are one part of the words, which is filled with 0. Assumes nothing.
use Rattle.diagram.proofs.ClearLaws.{clear_filled}
use Rattle.diagram.proofs.clear.Goals as goal

pub returns : goal.returns
returns c = clear_filled _ _ c.requires (c.fill.ensures.after (λ y h. h))
