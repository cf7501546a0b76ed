-- `chart::rows::put_units` meets its contract. Assumes nothing.
use mathlib.Core.Path.{◌≡◌, refl}
use native.Mathlib.Omega.{arith}
use Rattle.plan_record.proofs.ListLaws.{list_none}
use Rattle.chart.specs.Text.{unit_digit}
use Rattle.chart.proofs.FillLaws.{filled_more, filled_wrote}
use Rattle.chart.proofs.rows.put_units.Goals as goal

pub loop-i-init : goal.loop-i-init
loop-i-init c = list_none c.args.out.now c.args.at unit_digit

pub loop-i-preserved : goal.loop-i-preserved
loop-i-preserved c = filled_more _ _ unit_digit c.loop-i.i _ _ c.loop-i.invariant (omega arith) refl

pub returns : goal.returns
returns c =
    let e : c.loop-i.i ≡ c.args.units = omega arith in
    filled_wrote _ _ _ unit_digit _ c.requires.1 (rw e at c.loop-i.invariant)
