-- `clique_size::largest` meets its contract. Assumes nothing.
use native.Mathlib.Omega.{arith}
use borrow.Author.Rules.{rules}
use Rattle.clique_size.specs.Largest.{largest_clique}
use Rattle.clique_size.proofs.CodeLaws.{most_fits}
use Rattle.clique_size.proofs.largest.Goals as goal

pub overflow_add-result : goal.overflow_add-result
overflow_add-result c = let v = c.args.vector in record { fits = most_fits v v 0 c.most_of.result (omega arith) c.most_of.ensures }

pub returns : goal.returns
unfolding largest_clique
returns c = search rules
