-- `console::step` meets its contract. Assumes nothing.
use Rattle.console.proofs.SessionLaws.{stepped_as}
use Rattle.console.proofs.step.Goals as goal

pub returns : goal.returns
returns c =
    stepped_as c.args.session c.args.event c.step-stepped.ensures c.put_answer-end.ensures c.with_port-next.ensures
