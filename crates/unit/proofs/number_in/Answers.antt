-- `unit::number_in` meets its contract. Assumes nothing.
use mathlib.Core.Path.{sym, ap, ◌∙◌}
use Rattle.unit.specs.Numbers.{number_in}
use Rattle.unit.proofs.number_in.Goals as goal

pub returns-in-Err : goal.returns-in-Err
returns-in-Err c = c.from.ensures ∙ sym (ap number_in c.in-Err.is)
