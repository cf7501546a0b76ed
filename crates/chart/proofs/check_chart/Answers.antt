-- `chart::check_chart` meets its contract. Assumes nothing.
use mathlib.Core.Path.{sym, ◌∙◌}
use borrow.Author.Rules.{rules}
use Rattle.chart.proofs.ChartLaws.{refused_plan, refused_short, refused_unit}
use Rattle.unit.proofs.Exits.{handed_on}
use Rattle.chart.proofs.check_chart.Goals as goal

pub returns-then-room-length_of : goal.returns-then-room-length_of
returns-then-room-length_of c =
    let a = c.args in
    refused_short a.u a.plan a.units a.room (search rules) (sym c.check_plan.ensures ∙ c.in_ok-check_plan.was)
    c.length_of.result c.length_of.ensures c.if-room-length_of.true

pub returns-in_err-check_plan : goal.returns-in_err-check_plan
returns-in_err-check_plan c = handed_on c.from_residual.ensures.1 (refused_plan _ _ _ _ _ (sym c.check_plan.ensures ∙ c.in_err-check_plan.was))

pub returns : goal.returns
returns c =
    let a = c.args in
    c.check_units.ensures
    ∙ refused_unit a.u a.plan a.units a.room (search rules) (sym c.check_plan.ensures ∙ c.in_ok-check_plan.was)
    c.length_of.result c.length_of.ensures c.if-room-length_of.false
