-- `queue_text::pass` meets its contract. Assumes nothing.
use Rattle.queue_text.proofs.TellLaws.{passed_as}
use Rattle.queue_text.proofs.pass.Goals as goal

pub returns : goal.returns
returns c =
    let a = c.args in
    passed_as a.session a.request c.advance-after.ensures c.put_passed-end.ensures c.with_port-next.ensures
