-- `queue::idled` meets its contract: the bank is that of a tick. Assumes nothing.
use Rattle.std.proofs.Common.{Ok, None}
use mathlib.Core.Path.{ap}
use Rattle.controller.specs.declared.Stepped.{Stepped}
use Rattle.queue.proofs.idled.Goals as goal

pub returns : goal.returns
returns c = ap (λ (s : Stepped). record { answer = Ok None; bank = s.bank; count = c.args.count }) c.step.ensures
