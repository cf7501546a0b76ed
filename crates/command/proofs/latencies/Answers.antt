-- `command::latencies` meets its contract. Assumes nothing.
use mathlib.Core.Path.{sym}
use lib.Seq.{length-take-le}
use Rattle.command.proofs.LineLaws.{same_in_front, latencies_rest}
use Rattle.command.proofs.latencies.Goals as goal

pub slice_bounds-text-end : goal.slice_bounds-text-end
slice_bounds-text-end c = sym (length-take-le _ _ c.text_end-end.ensures.inside)

pub returns : goal.returns
returns c =
    let facts = same_in_front c.args.cycle.now (latencies_rest _ _ _ _ c.text_end-end.ensures c.past_word-name_end.ensures c.past_word-tag_end.ensures) (c.bytes_after.ensures.value, c.bytes_after.ensures.list_after) in
    record { value = facts.0; cycle_after = facts.1 }
