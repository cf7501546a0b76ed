-- `chart::rows::put_cells` meets its contract. Assumes nothing.
use Prim.Native.Nat.{ℕ}
use mathlib.Core.Bool.{not}
use mathlib.Core.Path.{◌∙◌}
use native.Mathlib.Omega.{arith}
use lib.Dec.{eqb}
use Rattle.plan_record.proofs.ListLaws.{list_none}
use Rattle.chart.specs.Inner.{cells_in}
use Rattle.chart.proofs.CellLaws.{byte_most, busy_none, busy_most, busy_more, cells_kept}
use Rattle.chart.proofs.FillLaws.{filled_more}
use Rattle.chart.proofs.rows.put_cells.Goals as goal

pub loop-i-init : goal.loop-i-init
loop-i-init c =
    let a = c.args in
    let f : ℕ → ℕ = cells_in a.out.now a.from a.marks a.columns a.segment in
    (busy_none f, list_none a.out.now a.at f)

pub overflow_add-count : goal.overflow_add-count
overflow_add-count c =
    let a = c.args in
    omega (arith, c.loop-i.invariant.0, busy_most c.loop-i.i (cells_in a.out.now a.from a.marks a.columns a.segment), byte_most (not (eqb c.cell_at-cell.result 46)))

pub loop-i-preserved : goal.loop-i-preserved
loop-i-preserved c =
    let a = c.args in
    let f : ℕ → ℕ = cells_in a.out.now a.from a.marks a.columns a.segment in
    let e = c.cell_at-cell.ensures ∙ cells_kept _ _ _ f c.loop-i.i c.loop-i.out c.loop-i.invariant.1 (omega arith) a.from c.requires.1 (omega arith) a.marks a.columns a.segment in (
      busy_more c.loop-i.i f c.loop-i.count c.cell_at-cell.result c.loop-i.invariant.0 e,
      filled_more _ _ f c.loop-i.i c.cell_at-cell.result c.loop-i.out c.loop-i.invariant.1 (omega arith) e,
    )
