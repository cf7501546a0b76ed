-- `small_text::put_line` meets its contract. Assumes nothing.
use Rattle.session.proofs.LineLaws.{line_length_lem, line_put}
use Rattle.small_text.proofs.put_line.Goals as goal

pub slice_bounds-put-end : goal.slice_bounds-put-end
slice_bounds-put-end c = line_length_lem c.write_totals-end.ensures

pub returns : goal.returns
returns c = line_put c.args.out.now c.write_totals-end.ensures (c.put.ensures.value, c.put.ensures.out_after)
