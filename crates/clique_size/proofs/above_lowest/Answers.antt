-- `clique_size::above_lowest` meets its contract. Assumes nothing.
use mathlib.Core.Path.{◌∙◌}
use native.Mathlib.Omega.{arith}
use lib.Count.{trailing_le}
use Rattle.clique_size.proofs.CodeLaws.{shift_lowest}
use Rattle.clique_size.proofs.above_lowest.Goals as goal

pub overflow_add-numbers : goal.overflow_add-numbers
overflow_add-numbers c = omega (arith, trailing_le 32 c.args.numbers)

pub returns : goal.returns
returns c = c.shift.ensures ∙ shift_lowest c.args.numbers
