-- `diagram::visit` meets its contract: a shift by fewer than 64 places is the division. Assumes nothing.
use Rattle.diagram.proofs.FollowLaws.{visit_permitted}
use Rattle.diagram.proofs.visit.Goals as goal

pub returns : goal.returns
returns c =
    let a = c.args in
    visit_permitted a.vector a.state a.latency a.count c.requires.1.0 c.requires.0 c.shift.ensures c.include.ensures
