-- `chart::check_units` meets its contract. Assumes nothing.
use Rattle.chart.proofs.CellLaws.{at_start, at_next, units_none, units_accepted, units_refused}
use Rattle.unit.proofs.Exits.{handed_on}
use Rattle.chart.proofs.check_units.Goals as goal

pub loop-init : goal.loop-init
loop-init c = (at_start _ _ _ c.empty_bank-bank.ensures, units_none _ _)

pub returns-in_err-next : goal.returns-in_err-next
returns-in_err-next c =
    let a = c.args in
    handed_on c.from_residual.ensures.1
    (units_refused _ _ a.units c.loop.position c.loop.bank c.loop.counter c.loop.invariant.0 c.loop.invariant.1 c.step-next.result c.step-next.ensures c.loop-test.true _ c.in_err-next.was)

pub loop-preserved : goal.loop-preserved
loop-preserved c = (
  at_next _ _ _ _ c.loop.counter c.loop.invariant.0 c.step-next.result c.step-next.ensures,
  units_accepted _ _ 0 _ _ c.loop.counter c.loop.invariant.0 c.loop.invariant.1 c.step-next.result c.step-next.ensures c.in_ok-next.was,
)
