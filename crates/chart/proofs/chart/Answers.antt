-- `chart::chart` meets its contract. Assumes nothing.
use mathlib.Core.Path.{sym, ◌∙◌}
use borrow.Author.Rules.{rules}
use Rattle.chart.proofs.ChartLaws.{none_refused, chart_room, chart_refused, chart_drawn}
use Rattle.unit.proofs.Exits.{handed_on}
use Rattle.chart.proofs.chart.Goals as goal

pub put_chart-requires : goal.put_chart-requires
put_chart-requires c =
    let a = c.args in
    let e = sym c.check_chart.ensures ∙ c.in_ok-check_chart.was in
    ((none_refused a.u a.plan a.units _ e).0, chart_room a.u a.plan a.units _ (search rules) e)

pub returns-in_err-check_chart : goal.returns-in_err-check_chart
returns-in_err-check_chart c =
    let facts = chart_refused _ _ _ _ _ (sym c.check_chart.ensures ∙ c.in_err-check_chart.was) in
    record { value = handed_on c.from_residual.ensures.1 facts.0; out_after = facts.1 }

pub returns : goal.returns
returns c =
    let facts = chart_drawn _ _ _ _ (sym c.check_chart.ensures ∙ c.in_ok-check_chart.was) c.put_chart.ensures in
    record { value = facts.0; out_after = facts.1 }
