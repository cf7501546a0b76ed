-- `chart::rows::put_segments` meets its contract. Assumes nothing.
use Prim.Native.Nat.{◌+◌}
use native.Mathlib.Nat.{le_refl}
use native.Mathlib.Omega.{arith}
use Rattle.text.proofs.BoundedLaws.{put_as, put_join_start, put_join_more}
use Rattle.chart.specs.Inner.{cells_in, line_length, row_from}
use Rattle.chart.specs.Text.{segment_line}
use Rattle.chart.proofs.SegmentLaws.{row_kept, line_same}
use Rattle.chart.proofs.rows.put_segments.Goals as goal

pub loop-segment-init : goal.loop-segment-init
loop-segment-init c =
    let a = c.args in
    put_join_start (line_length a.units) (λ k. segment_line a.units (cells_in a.out.now (row_from a.units) a.marks a.columns k) (k + 1)) (omega (arith, c.requires.3))

pub loop-segment-preserved : goal.loop-segment-preserved
loop-segment-preserved c =
    let a = c.args in
    let p = c.loop-segment.invariant in
    let from = row_from a.units in
    put_join_more (line_length a.units) c.loop-segment.segment (λ k. segment_line a.units (cells_in a.out.now from a.marks a.columns k) (k + 1)) p
    (put_as c.put_segment-end.ensures
    (line_same from a.units a.marks a.columns c.loop-segment.out a.out.now c.loop-segment.segment (c.loop-segment.segment + 1) (row_kept from a.units a.marks a.columns p c.requires.2))
    (le_refl (line_length a.units)))
