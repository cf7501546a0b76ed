-- `record_text::report` meets its contract. Assumes nothing.
use mathlib.Core.Path.{sym, ap, ◌∙◌}
use native.Mathlib.Omega.{arith}
use lib.ListN.{length}
use Rattle.session.proofs.LineLaws.{line_as}
use Rattle.record_text.specs.Lines.{list_line}
use Rattle.record_text.proofs.LineLaws.{list_few, report_refused, report_shown}
use Rattle.record_text.proofs.report.Goals as goal

pub put_list-requires : goal.put_list-requires
put_list-requires c =
    omega (arith, ap length c.report_list-list.ensures, list_few _ _ (sym c.report-shown.ensures ∙ c.in-Ok.is))

pub returns-in-Err : goal.returns-in-Err
returns-in-Err c = report_refused _ _ _ _ _ (sym c.report-shown.ensures ∙ c.in-Err.is) c.put_answer.ensures

pub returns-in-Ok : goal.returns-in-Ok
returns-in-Ok c = report_shown _ _ _ _ _ (sym c.report-shown.ensures ∙ c.in-Ok.is) (line_as (ap (list_line _) c.report_list-list.ensures) c.put_list.ensures)
