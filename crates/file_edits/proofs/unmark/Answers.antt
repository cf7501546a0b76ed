-- `file_edits::unmark` meets its contract: a refused file is passed on, and the edit of an accepted one is written over it. Assumes nothing.
use Rattle.file_edits.proofs.WriteLaws.{clears, edit_ends}
use Rattle.file_edits.proofs.unmark.Goals as goal

pub returns : goal.returns
returns c =
    let facts = edit_ends clears _ _ _ _ c.read-u.ensures c.byte.ensures c.byte-2.ensures c.byte-3.ensures c.unmark-u.ensures (c.write_back.ensures.value, c.write_back.ensures.file_after) in
    record { value = facts.0; file_after = facts.1 }
