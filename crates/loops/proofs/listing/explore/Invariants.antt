-- `loops::listing::explore` meets its contract: the states before the present place are done. Assumes nothing.
use Prim.Native.Nat.{◌-◌}
use Rattle.loops.proofs.FollowLaws.{Exploring}
use Rattle.loops.proofs.listing.explore.Given as goal

abbrev pub invariant-loop-at : goal.invariant-loop-at
invariant-loop-at l = Exploring l.initial.work l.work l.rules l.count l.at

abbrev pub decreases-loop-at : goal.decreases-loop-at
decreases-loop-at l = 257 - l.at
