-- `loop_text::put_loop` meets its contract. Assumes nothing.
use mathlib.Core.Path.{◌≡◌, sym}
use native.Mathlib.Omega.{arith}
use lib.ListN.{length}
use lib.Seq.{length-take-le}
use Rattle.session.proofs.LineLaws.{line_length_lem, line_put}
use borrow.Author.Rules.{rules}
use Rattle.loop_text.proofs.put_loop.Goals as goal

pub slice_bounds-latencies-end : goal.slice_bounds-latencies-end
slice_bounds-latencies-end c =
    let n : length c.args.plan.latencies ≡ 256 = search rules in
    omega (arith, c.requires)

pub slice_bounds-write_loop-end-2 : goal.slice_bounds-write_loop-end-2
slice_bounds-write_loop-end-2 c =
    let n : length c.args.plan.latencies ≡ 256 = search rules in
    sym (length-take-le c.args.plan.count c.args.plan.latencies (omega (arith, c.requires)))

pub write_loop-end-requires : goal.write_loop-end-requires
write_loop-end-requires c =
    let n : length c.args.plan.latencies ≡ 256 = search rules in
    (omega (arith, c.requires, length-take-le c.args.plan.count c.args.plan.latencies (omega (arith, c.requires))), omega arith)

pub slice_bounds-put-end : goal.slice_bounds-put-end
slice_bounds-put-end c = line_length_lem c.write_loop-end.ensures

pub returns : goal.returns
returns c =
    line_put c.args.out.now c.write_loop-end.ensures (c.put.ensures.value, c.put.ensures.out_after)
