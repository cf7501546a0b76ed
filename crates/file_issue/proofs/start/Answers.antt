-- `file_issue::start` meets its contract: the file's refusal, the tag's, or one event on the registers. Assumes nothing.
use Rattle.file_issue.proofs.IssueLaws.{start_ends}
use Rattle.file_issue.proofs.start.Goals as goal

pub returns : goal.returns
returns c =
    let a = c.args in
    let facts = start_ends a.file.now a.tag a.bank.now c.read-back.result _ c.check_tag-tagged.result c.first.result c.read-back.ensures c.byte.ensures
    c.check_tag-tagged.ensures c.first.ensures _ _ (c.step.ensures.value, c.step.ensures.words_after) in
    record { value = facts.0; bank_after = facts.1 }
