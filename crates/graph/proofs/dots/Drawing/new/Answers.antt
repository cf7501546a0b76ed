-- `graph::dots::Drawing::new` meets its contract. Assumes nothing.
use Rattle.graph.proofs.DotLaws.{width_narrow}
use Rattle.graph.proofs.dots.Drawing.new.Goals as goal

pub invariant_of-result-clause-narrow : goal.invariant_of-result-clause-narrow
invariant_of-result-clause-narrow c = width_narrow _ _ c.width_of.ensures
