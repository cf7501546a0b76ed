-- `caller_text::answer` meets its contract: by what is done. Assumes nothing.
use Rattle.caller_text.proofs.TellLaws.{shared_by}
use Rattle.caller_text.proofs.answer.Goals as goal

pub returns-in-Callers : goal.returns-in-Callers
returns-in-Callers c =
    let a = c.args in
    shared_by a.session a.request c.in-Callers.is c.«open».ensures

pub returns-in-Call : goal.returns-in-Call
returns-in-Call c =
    let a = c.args in
    shared_by a.session a.request c.in-Call.is c.call.ensures

pub returns-in-Turn : goal.returns-in-Turn
returns-in-Turn c =
    let a = c.args in
    shared_by a.session a.request c.in-Turn.is c.turn.ensures
