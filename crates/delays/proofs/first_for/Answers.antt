-- `delays::first_for` meets its contract. Assumes nothing.
use native.Mathlib.Omega.{arith}
use Rattle.delays.proofs.WordLaws.{first_none, first_some}
use Rattle.delays.proofs.first_for.Goals as goal

pub returns-then-count-eq0 : goal.returns-then-count-eq0
returns-then-count-eq0 c = first_none _ _ c.if-count-eq0.true

pub overflow_add-result : goal.overflow_add-result
overflow_add-result c = omega (arith, first_some c.args.spots c.args.count c.if-count-eq0.false, c.requires.1, c.requires.0)

pub returns : goal.returns
returns c = first_some _ _ c.if-count-eq0.false
