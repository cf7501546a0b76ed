-- `chart::rows::cell_at` meets its contract. Assumes nothing.
use Prim.Native.Nat.{ℕ, ◌+◌, ◌-◌}
use mathlib.Core.Bool.{Bool}
use mathlib.Core.Path.{◌≡◌, sym, ap, ap₂, ◌∙◌}
use native.Mathlib.Omega.{arith}
use lib.ListN.{get_or, length-take}
use lib.Seq.{get_or-take}
use Rattle.words.specs.Bits.{is_set}
use Rattle.chart.specs.Cells.{next_cell}
use Rattle.chart.specs.Inner.{marks_in, row_in}
use Rattle.chart.proofs.CellLaws.{cell_none, cell_more}
use Rattle.chart.proofs.rows.cell_at.Goals as goal

pub loop-c-init : goal.loop-c-init
loop-c-init c = cell_none _ _ _

pub loop-c-preserved : goal.loop-c-preserved
loop-c-preserved c =
    let a = c.args in
    let k = c.loop-c.c in
    let back : k + 1 - 1 ≡ k = omega arith in
    let w = get_or-take a.columns a.marks k 0 (omega (arith, length-take a.columns a.marks)) in
    c.next_cell-cell.ensures
    ∙ ap₂ (λ (m : Bool) (x : ℕ). next_cell m (row_in a.bytes.now a.from) a.i k x)
    (c.test-is_marked.ensures ∙ ap (λ x. is_set x a.segment) w ∙ sym (ap (λ j. is_set (get_or a.marks j 0) a.segment) back)) c.loop-c.invariant
    ∙ sym (cell_more (marks_in a.marks a.segment) (row_in a.bytes.now a.from) a.i k)
