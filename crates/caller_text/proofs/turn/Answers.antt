-- `caller_text::turn` meets its contract. Assumes nothing.
use Rattle.caller_text.proofs.TellLaws.{turned_as}
use Rattle.caller_text.proofs.turn.Goals as goal

pub returns : goal.returns
returns c =
    let a = c.args in
    turned_as a.session a.request c.take_turn-after.ensures c.put_served-end.ensures c.with_port-next.ensures
