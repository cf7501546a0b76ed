-- `small_text::put_totals` meets its contract: the totals, or why there are none. Assumes nothing.
use mathlib.Core.Path.{sym, ap}
use Rattle.session.proofs.LineLaws.{line_as}
use Rattle.small_text.specs.Told.{totalled_line}
use Rattle.small_text.proofs.put_totals.Goals as goal

pub returns-in-Ok : goal.returns-in-Ok
returns-in-Ok c = line_as (ap totalled_line (sym c.in-Ok.is)) c.put_line.ensures

pub returns-in-Err : goal.returns-in-Err
returns-in-Err c = line_as (ap totalled_line (sym c.in-Err.is)) c.put_answer.ensures
