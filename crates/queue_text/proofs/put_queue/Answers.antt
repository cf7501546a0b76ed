-- `queue_text::put_queue` meets its contract. Assumes nothing.
use mathlib.Core.Path.{sym}
use Prim.Native.Nat.{◌*◌}
use native.Mathlib.Omega.{arith}
use lib.Seq.{length-take-le}
use Rattle.text.proofs.RowLaws.{wrote_as}
use Rattle.session.proofs.LineLaws.{line_length_lem, line_put}
use Rattle.queue_text.proofs.TellLaws.{queue_told}
use Rattle.queue_text.proofs.put_queue.Goals as goal

pub slice_bounds-write_queue-end-2 : goal.slice_bounds-write_queue-end-2
slice_bounds-write_queue-end-2 c =
    sym (length-take-le _ c.numbers_of-numbers.result (omega (arith, c.numbers_of-numbers.ensures.1, c.waiting_of-count.ensures)))

pub write_queue-end-requires : goal.write_queue-end-requires
write_queue-end-requires c =
    (omega (arith, c.waiting_of-count.ensures, length-take-le (2 * c.waiting_of-count.result) c.numbers_of-numbers.result (omega (arith, c.numbers_of-numbers.ensures.1, c.waiting_of-count.ensures))), omega arith)

pub slice_bounds-put-end : goal.slice_bounds-put-end
slice_bounds-put-end c = line_length_lem c.write_queue-end.ensures

pub returns : goal.returns
returns c =
    let told = queue_told c.args.queue _ c.numbers_of-numbers.result c.waiting_of-count.ensures c.numbers_of-numbers.ensures.0 c.numbers_of-numbers.ensures.2 in
    line_put c.args.out.now (wrote_as c.write_queue-end.ensures told) (c.put.ensures.value, c.put.ensures.out_after)
