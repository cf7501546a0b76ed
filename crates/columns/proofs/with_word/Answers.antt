-- `columns::with_word` meets its contract. Assumes nothing.
use Rattle.columns.proofs.with_word.Goals as goal

pub returns : goal.returns
returns c = simp (c.place_of-i.ensures, c.no_plan-kept.ensures)
