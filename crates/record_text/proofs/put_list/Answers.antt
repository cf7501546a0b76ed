-- `record_text::put_list` meets its contract. Assumes nothing.
use Rattle.session.proofs.LineLaws.{line_length_lem, line_put}
use Rattle.record_text.proofs.put_list.Goals as goal

pub slice_bounds-put-end : goal.slice_bounds-put-end
slice_bounds-put-end c = line_length_lem c.write_list-end.ensures

pub returns : goal.returns
returns c =
    line_put c.args.out.now c.write_list-end.ensures (c.put.ensures.value, c.put.ensures.out_after)
