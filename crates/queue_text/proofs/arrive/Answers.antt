-- `queue_text::arrive` meets its contract. Assumes nothing.
use Rattle.queue_text.proofs.TellLaws.{arrived_as}
use Rattle.queue_text.proofs.arrive.Goals as goal

pub returns : goal.returns
returns c =
    let a = c.args in
    arrived_as a.session a.request c.byte.ensures c.join-after.ensures c.put_answer-end.ensures c.with_port-next.ensures
