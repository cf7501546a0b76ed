-- `graph::dots::next_of` meets its contract. Assumes nothing.
use native.Mathlib.Omega.{arith}
use Rattle.graph.proofs.DotLaws.{next_long}
use Rattle.graph.proofs.dots.next_of.Goals as goal

pub returns-then-latency-ge32 : goal.returns-then-latency-ge32
returns-then-latency-ge32 c = let a = c.args in next_long a.vector a.state a.latency (omega arith) (omega arith)
