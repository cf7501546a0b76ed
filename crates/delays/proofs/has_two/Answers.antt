-- `delays::has_two` meets its contract. Assumes nothing.
use mathlib.Core.Path.{ap}
use lib.Dec.{ltb}
use Rattle.delays.proofs.has_two.Goals as goal

pub returns : goal.returns
returns c = ap (λ n. ltb 1 n) c.ones.ensures
