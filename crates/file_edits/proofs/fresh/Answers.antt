-- `file_edits::fresh` meets its contract: the unit of the narrowed counts is written, or its refusal passed on. Assumes nothing.
use Rattle.file_edits.proofs.WriteLaws.{fresh_written, fresh_refused}
use Rattle.file_edits.proofs.fresh.Goals as goal

pub returns-in-Ok : goal.returns-in-Ok
returns-in-Ok c =
    let facts = fresh_written _ _ _ _ _ c.byte.ensures c.byte-2.ensures c.byte-3.ensures
    c.fresh-made.ensures c.write-written.ensures.value c.write-written.ensures.out_after c.in-Ok.is in
    record { value = facts.0; out_after = facts.1.0; size_after = facts.1.1 }

pub returns-in-Err : goal.returns-in-Err
returns-in-Err c =
    let facts = fresh_refused _ _ _ _ _ c.byte.ensures c.byte-2.ensures c.byte-3.ensures
    c.fresh-made.ensures c.write-written.ensures.value c.write-written.ensures.out_after c.in-Err.is c.from.ensures in
    record { value = facts.0; out_after = facts.1.0; size_after = facts.1.1 }
