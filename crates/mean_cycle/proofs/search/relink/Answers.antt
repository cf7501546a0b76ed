-- `mean_cycle::search::relink` meets its contract. Assumes nothing.
use native.Mathlib.Omega.{arith}
use lib.ListN.{length-set}
use Rattle.mean_cycle.proofs.search.relink.Goals as goal

pub bounds-work-x-2 : goal.bounds-work-x-2
bounds-work-x-2 c = simp length-set (omega arith)

pub bounds-work-x-3 : goal.bounds-work-x-3
bounds-work-x-3 c = simp length-set (omega arith)
