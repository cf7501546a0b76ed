-- `command::tags` meets its contract. Assumes nothing.
use mathlib.Core.Path.{sym}
use lib.Seq.{length-take-le}
use Rattle.command.proofs.LineLaws.{same_in_front, tags_rest}
use Rattle.command.proofs.tags.Goals as goal

pub slice_bounds-text-end : goal.slice_bounds-text-end
slice_bounds-text-end c = sym (length-take-le _ _ c.text_end-end.ensures.inside)

pub returns : goal.returns
returns c =
    let facts = same_in_front c.args.list.now (tags_rest _ _ _ c.text_end-end.ensures c.past_word-name_end.ensures) (c.bytes_after.ensures.value, c.bytes_after.ensures.list_after) in
    record { value = facts.0; list_after = facts.1 }
