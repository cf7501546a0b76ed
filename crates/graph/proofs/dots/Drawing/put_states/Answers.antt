-- `graph::dots::Drawing::put_states` meets its contract. Assumes nothing.
use native.Mathlib.Omega.{arith}
use Rattle.text.proofs.BoundedLaws.{put_join_start, put_join_more}
use Rattle.graph.proofs.DotLaws.{arcs_at}
use Rattle.graph.proofs.dots.Drawing.put_states.Goals as goal

pub loop-state-init : goal.loop-state-init
loop-state-init c =
    let a = c.args in
    put_join_start 3531 (arcs_at a.self.now.columns a.self.now.vector a.self.now.cycle.now a.states.now) (omega (arith, c.requires.1))

pub loop-state-preserved : goal.loop-state-preserved
loop-state-preserved c =
    let a = c.args in
    put_join_more 3531 c.loop-state.state-index (arcs_at a.self.now.columns a.self.now.vector a.self.now.cycle.now a.states.now) c.loop-state.invariant c.put_arcs-end.ensures
