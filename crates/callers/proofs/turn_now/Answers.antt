-- `callers::turn_now` meets its contract. Assumes nothing.
use mathlib.Core.Path.{sym, ◌∙◌}
use Rattle.callers.proofs.turn_now.Goals as goal

pub returns-then-has_work : goal.returns-then-has_work
returns-then-has_work c = simp (sym c.has_work.ensures ∙ c.if-has_work.true)

pub returns : goal.returns
returns c = simp (sym c.has_work.ensures ∙ c.if-has_work.false) c.next_turn.ensures
