-- `chart::rows::put_chart` meets its contract. Assumes nothing.
use Prim.Native.Nat.{◌+◌, ◌*◌}
use native.Mathlib.Nat.{le_refl}
use native.Mathlib.Omega.{arith}
use Rattle.text.proofs.BoundedLaws.{put_more, put_as, put_room}
use Rattle.chart.specs.Inner.{top_length, line_length}
use Rattle.chart.proofs.ChartLaws.{ready_sound, row_stands, top_end, chart_parts}
use Rattle.chart.proofs.rows.put_chart.Goals as goal

pub put_segments-requires : goal.put_segments-requires
put_segments-requires c =
    let d = ready_sound c.args.u c.args.plan c.requires.0 in
    let e = top_end c.args.u c.args.plan c.requires.0 c.args.units c.put_top-after_top.ensures in (
      d.columns.1,
      d.segments.1,
      omega (arith, e),
      put_room (line_length c.args.units * c.args.u.segments) c.put_top-after_top.ensures (omega (arith, c.requires.1)),
    )

pub returns : goal.returns
returns c =
    let a = c.args in
    put_as (put_more c.put_top-after_top.ensures c.put_segments.ensures)
    (chart_parts a.u a.plan c.requires.0 a.units c.put_top-after_top.new.out c.columns_of-marks.result c.columns_of-marks.ensures
    (row_stands a.u a.plan c.requires.0 a.units c.put_top-after_top.ensures))
    (le_refl (top_length a.units + line_length a.units * a.u.segments))
