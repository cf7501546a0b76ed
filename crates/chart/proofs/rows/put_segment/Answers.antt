-- `chart::rows::put_segment` meets its contract. Assumes nothing.
use Prim.Native.Nat.{◌+◌, ◌*◌}
use native.Mathlib.Omega.{arith}
use lib.ListN.{length}
use Rattle.text.specs.Text.{decimal}
use Rattle.text.proofs.BoundedLaws.{put_more, put_as, put_room}
use Rattle.chart.specs.Inner.{cells_in}
use Rattle.chart.proofs.CellLaws.{busy_most}
use Rattle.chart.proofs.LineLaws.{line_is}
use Rattle.chart.proofs.SegmentLaws.{row_kept, segment_all, cells_put}
use Rattle.chart.proofs.rows.put_segment.Goals as goal

pub put_name-after_name-requires : goal.put_name-after_name-requires
put_name-after_name-requires c = (omega (arith, c.requires.1), omega (arith, c.requires.3, line_is c.args.units))

pub put_cells-tasks-requires : goal.put_cells-tasks-requires
put_cells-tasks-requires c =
    (c.requires.0, omega (arith, c.requires.2, c.put_name-after_name.ensures.wrote.next), put_room c.args.units c.put_name-after_name.ensures (omega (arith, c.requires.3, line_is c.args.units)))

pub overflow_cast-tasks : goal.overflow_cast-tasks
overflow_cast-tasks c =
    omega (arith, c.put_cells-tasks.ensures.value, busy_most c.args.units (cells_in c.put_name-after_name.new.out (c.args.units + 17) c.args.marks c.args.columns c.args.segment))

pub put_count-requires : goal.put_count-requires
put_count-requires c =
    let q = cells_put (c.args.units + 17) c.args.units c.args.marks c.args.columns c.put_name-after_name.ensures c.requires.2 c.args.segment c.put_cells-tasks.new.out c.put_cells-tasks.ensures.out_after (put_room c.args.units c.put_name-after_name.ensures (omega (arith, c.requires.3, line_is c.args.units))) in (
      omega (arith, c.put_cells-tasks.ensures.value, busy_most c.args.units (cells_in c.put_name-after_name.new.out (c.args.units + 17) c.args.marks c.args.columns c.args.segment)),
      put_room (2 * length (decimal c.args.units) + 8) q (omega (arith, c.requires.3, line_is c.args.units)),
    )

pub returns : goal.returns
returns c =
    let q = cells_put (c.args.units + 17) c.args.units c.args.marks c.args.columns c.put_name-after_name.ensures c.requires.2 c.args.segment c.put_cells-tasks.new.out c.put_cells-tasks.ensures.out_after (put_room c.args.units c.put_name-after_name.ensures (omega (arith, c.requires.3, line_is c.args.units))) in
    let from = c.args.units + 17 in
    put_as (put_more q c.put_count.ensures)
    (segment_all from c.args.units c.args.marks c.args.columns c.put_name-after_name.new.out c.args.out.now c.args.segment (c.args.segment + 1)
    c.put_cells-tasks.result c.put_cells-tasks.ensures.value (row_kept from c.args.units c.args.marks c.args.columns c.put_name-after_name.ensures c.requires.2))
    (omega (arith, line_is c.args.units))
