-- `console::lines::put_plan` meets its contract. Assumes nothing.
use Rattle.session.proofs.LineLaws.{line_length_lem, line_put}
use Rattle.console.proofs.lines.put_plan.Goals as goal

pub slice_bounds-put-end : goal.slice_bounds-put-end
slice_bounds-put-end c = line_length_lem c.write_plan-end.ensures

pub returns : goal.returns
returns c = line_put c.args.out.now c.write_plan-end.ensures (c.put.ensures.value, c.put.ensures.out_after)
