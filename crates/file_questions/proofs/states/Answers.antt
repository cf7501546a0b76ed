-- `file_questions::states` meets its contract: the answer, the words and the count. Assumes nothing.
use Rattle.file_questions.proofs.StatesLaws.{list_handed}
use Rattle.file_questions.proofs.states.Goals as goal

pub returns : goal.returns
returns c =
    let a = c.args in
    let facts = list_handed a.file.now a.tag a.out.now a.count.now c.read-back.result c.byte.result c.states-listed.result _ _ _ c.read-back.ensures
    c.byte.ensures c.states-listed.ensures (c.hand_out.ensures.value, c.hand_out.ensures.value_after) in
    record { value = facts.0; out_after = facts.1.0; count_after = facts.1.1 }
