-- `caller_text::call` meets its contract. Assumes nothing.
use Rattle.caller_text.proofs.TellLaws.{called_as}
use Rattle.caller_text.proofs.call.Goals as goal

pub returns : goal.returns
returns c =
    let a = c.args in
    called_as a.session a.request c.byte-caller.ensures c.byte.ensures c.call-after.ensures c.put_answer-end.ensures c.with_port-next.ensures
