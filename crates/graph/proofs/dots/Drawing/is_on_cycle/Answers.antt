-- `graph::dots::Drawing::is_on_cycle` meets its contract. Assumes nothing.
use mathlib.Core.Path.{sym, ◌∙◌}
use native.Mathlib.Omega.{arith}
use Rattle.graph.proofs.DotLaws.{takes_here, takes_none}
use Rattle.graph.proofs.dots.Drawing.is_on_cycle.Goals as goal

pub returns-then-is_arc : goal.returns-then-is_arc
returns-then-is_arc c =
    let a = c.args in
    takes_here c.args.self.now.turn a.state a.latency c.loop-j.j (omega arith) (sym c.is_arc.ensures ∙ c.if-is_arc.true)

pub returns : goal.returns
returns c = let a = c.args in takes_none c.args.self.now.turn a.state a.latency (λ k h. c.loop-j.invariant k (omega arith))
