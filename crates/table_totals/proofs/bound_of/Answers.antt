-- `table_totals::bound_of` meets its contract: the unit has function 1, so its bound is not refused. Assumes nothing.
use mathlib.Core.Path.{sym, ◌∙◌}
use Rattle.table_totals.proofs.MeasureLaws.{bound_given, bound_never}
use Rattle.table_totals.proofs.bound_of.Goals as goal

pub returns-in-Err : goal.returns-in-Err
returns-in-Err c =
    absurd (bound_never c.args.u c.requires (sym c.bound-found.ensures ∙ c.in-Err.is))

pub returns-in-Ok : goal.returns-in-Ok
returns-in-Ok c =
    bound_given c.args.u c.requires (sym c.bound-found.ensures ∙ c.in-Ok.is)
