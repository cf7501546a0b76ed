-- `queue_text::answer` meets its contract: by what is done. Assumes nothing.
use Rattle.queue_text.proofs.TellLaws.{issued_by}
use Rattle.queue_text.proofs.answer.Goals as goal

pub returns-in-Arrive : goal.returns-in-Arrive
returns-in-Arrive c =
    let a = c.args in
    issued_by a.session a.request c.in-Arrive.is c.arrive.ensures

pub returns-in-Pass : goal.returns-in-Pass
returns-in-Pass c =
    let a = c.args in
    issued_by a.session a.request c.in-Pass.is c.pass.ensures

pub returns-in-Queue : goal.returns-in-Queue
returns-in-Queue c =
    let a = c.args in
    issued_by a.session a.request c.in-Queue.is c.tell.ensures
