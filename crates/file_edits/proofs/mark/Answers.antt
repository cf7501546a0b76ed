-- `file_edits::mark` meets its contract: a refused file is passed on, and the edit of an accepted one is written over it. Assumes nothing.
use Rattle.file_edits.proofs.WriteLaws.{marks, edit_ends}
use Rattle.file_edits.proofs.mark.Goals as goal

pub returns : goal.returns
returns c =
    let facts = edit_ends marks _ _ _ _ c.read-u.ensures c.byte.ensures c.byte-2.ensures c.byte-3.ensures c.mark-u.ensures (c.write_back.ensures.value, c.write_back.ensures.file_after) in
    record { value = facts.0; file_after = facts.1 }
