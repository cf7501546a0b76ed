-- `session::put_answer` meets its contract: by the answer. Assumes nothing.
use mathlib.Core.Path.{sym, ap}
use Rattle.session.specs.Sessions.{answer_line}
use Rattle.session.proofs.LineLaws.{line_as}
use Rattle.session.proofs.put_answer.Goals as goal

pub returns-in-Ok : goal.returns-in-Ok
returns-in-Ok c = line_as (ap answer_line (sym c.in-Ok.is)) record { next = c.put.ensures.value; out = c.put.ensures.out_after }

pub returns-in-Err : goal.returns-in-Err
returns-in-Err c = line_as (ap answer_line (sym c.in-Err.is)) c.put_refused.ensures
