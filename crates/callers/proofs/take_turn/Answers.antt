-- `callers::take_turn` meets its contract. Assumes nothing.
use borrow.Author.Rules.{rules}
use Rattle.callers.proofs.ValueLaws.{takes}
use Rattle.callers.proofs.take_turn.Goals as goal

pub returns : goal.returns
returns c =
    let a = c.args in
    takes a.u a.bank a.shared 32 (search rules) c.unit_on-after.result c.unit_on-after.ensures
