-- `chart::simulate` meets its contract. Assumes nothing.
use mathlib.Core.Path.{sym}
use Rattle.unit.proofs.Exits.{handed_on}
use Rattle.chart.proofs.ChartLaws.{own_refused, own_drawn}
use Rattle.chart.proofs.simulate.Goals as goal

pub returns-in_err-plan : goal.returns-in_err-plan
returns-in_err-plan c =
    let a = c.args in
    let facts = own_refused a.u a.tag.0 a.units a.out.now (sym c.in_err-plan.ensures) in
    record { value = handed_on c.from_residual.ensures.1 facts.0; out_after = facts.1 }

pub returns : goal.returns
returns c =
    let a = c.args in
    let facts = own_drawn a.u a.tag.0 a.units a.out.now _ _ (sym c.in_ok-plan.ensures) (c.chart.ensures.value, c.chart.ensures.out_after) in
    record { value = facts.0; out_after = facts.1 }
