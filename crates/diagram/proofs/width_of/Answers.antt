-- `diagram::width_of` meets its contract: what the leading zeros leave of 32 is the width. Assumes nothing.
use native.Mathlib.Omega.{arith}
use lib.Count.{leading_le}
use borrow.Author.Rules.{rules}
use Rattle.diagram.proofs.WidthLaws.{width_zeros}
use Rattle.diagram.proofs.width_of.Goals as goal

pub overflow_sub-result : goal.overflow_sub-result
overflow_sub-result c = omega (arith, leading_le 32 c.args.vector)

pub returns : goal.returns
returns c = width_zeros c.args.vector (search rules)
