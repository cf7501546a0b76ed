-- `chart::rows::put_starts` meets its contract. Assumes nothing.
use mathlib.Core.Path.{◌≡◌}
use native.Mathlib.Omega.{arith}
use Rattle.plan_record.proofs.ListLaws.{list_none}
use Rattle.chart.specs.Cells.{start_cell}
use Rattle.chart.proofs.CellLaws.{at_start, at_next, byte_most, tasks_most, tasks_none, tasks_next, start_next}
use Rattle.chart.proofs.FillLaws.{filled_more, filled_wrote}
use Rattle.chart.proofs.rows.put_starts.Goals as goal

pub loop-i-init : goal.loop-i-init
loop-i-init c = let a = c.args in (at_start _ _ _ c.empty_bank-bank.ensures, tasks_none _ _, list_none a.out.now a.at (start_cell a.u a.plan))

pub overflow_add-tasks : goal.overflow_add-tasks
overflow_add-tasks c =
    let a = c.args in
    omega (arith, c.loop-i.invariant.1, tasks_most a.u a.plan c.loop-i.i, byte_most c.step-next.result.started)

pub loop-i-preserved : goal.loop-i-preserved
loop-i-preserved c =
    let a = c.args in
    let i = c.loop-i.invariant in (
      at_next _ _ _ _ c.loop-i.i i.0 c.step-next.result c.step-next.ensures,
      tasks_next _ _ _ _ c.loop-i.i i.0 c.step-next.result c.step-next.ensures c.loop-i.tasks i.1,
      filled_more _ _ (start_cell a.u a.plan) c.loop-i.i _ _ i.2 (omega arith) (start_next _ _ _ _ c.loop-i.i i.0 c.step-next.result c.step-next.ensures c.loop-i.tasks _ i.1 c.start_cell.ensures),
    )

pub returns : goal.returns
returns c =
    let a = c.args in
    let e : c.loop-i.i ≡ a.units = omega arith in
    filled_wrote _ _ _ (start_cell a.u a.plan) _ c.requires.1 (rw e at c.loop-i.invariant.2)
