-- `callers::named` meets its contract. Assumes nothing.
use mathlib.Core.Path.{sym, ◌∙◌}
use Rattle.callers.proofs.named.Goals as goal

pub returns-then-is_inside : goal.returns-then-is_inside
returns-then-is_inside c = simp (sym c.is_inside.ensures ∙ c.if-is_inside.true) c.is_inside-then-is_inside.ensures

pub returns : goal.returns
returns c = simp (sym c.is_inside.ensures ∙ c.if-is_inside.false)
