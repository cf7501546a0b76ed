-- `file_issue::tick` meets its contract: the file's refusal, or one event on the registers. Assumes nothing.
use Rattle.file_issue.proofs.IssueLaws.{tick_ends}
use Rattle.file_issue.proofs.tick.Goals as goal

pub returns : goal.returns
returns c =
    let facts = tick_ends _ _ c.read-back.result _ _ c.read-back.ensures (c.step.ensures.value, c.step.ensures.words_after) in
    record { value = facts.0; bank_after = facts.1 }
