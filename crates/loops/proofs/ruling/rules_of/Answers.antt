-- `loops::ruling::rules_of` meets its contract. Assumes nothing.
use native.Mathlib.Omega.{arith}
use Rattle.collision.proofs.MatrixLaws.{largest_31}
use Rattle.loops.proofs.ruling.rules_of.Goals as goal

pub invariant_of-result-clause-slim : goal.invariant_of-result-clause-slim
invariant_of-result-clause-slim c = omega (arith, largest_31 c.args.u, c.widest-width.ensures)
