-- `caller_text::open` meets its contract. Assumes nothing.
use Rattle.caller_text.proofs.TellLaws.{opened_as}
use Rattle.caller_text.proofs.open.Goals as goal

pub returns : goal.returns
returns c =
    let a = c.args in
    opened_as a.session a.request c.byte-callers.ensures c.is_inside-some.ensures c.tested-answer.ensures c.put_answer-end.ensures
    c.shared_then-shared.ensures c.with_port-next.ensures
