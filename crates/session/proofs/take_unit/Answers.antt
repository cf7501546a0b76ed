-- `session::take_unit` meets its contract: by the answer. Assumes nothing.
use Rattle.session.proofs.SessionLaws.{taken_refused, taken_done}
use Rattle.session.proofs.take_unit.Goals as goal

pub returns-in-Err : goal.returns-in-Err
returns-in-Err c = let a = c.args in taken_refused a.session a.made.unit c.in-Err.is c.put_answer-end.ensures

pub returns-in-Ok : goal.returns-in-Ok
returns-in-Ok c =
    let a = c.args in
    taken_done a.session a.made.unit c.in-Ok.is c.empty_queue-queue.ensures c.empty_shared-shared.ensures c.put_answer-end.ensures
