-- `delays::is_taken` meets its contract. The loop's invariant: whether a column that was passed takes the place. Assumes nothing.
use mathlib.Core.Path.{◌≡◌}
use Rattle.delays.proofs.WordLaws.{taken_by}
use Rattle.delays.proofs.is_taken.Given as goal

abbrev pub invariant-loop-i : goal.invariant-loop-i
invariant-loop-i l = l.taken ≡ taken_by l.columns l.spots l.count l.latency l.place l.i
