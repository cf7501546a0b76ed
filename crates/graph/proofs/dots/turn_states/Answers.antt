-- `graph::dots::turn_states` meets its contract. Assumes nothing.
use Rattle.graph.proofs.DotLaws.{turning_more}
use Rattle.graph.proofs.dots.turn_states.Goals as goal

pub loop-j-preserved : goal.loop-j-preserved
loop-j-preserved c = turning_more c.loop-j.invariant c.loop-j-test.true c.requires c.next_of-state.ensures
