-- `diagram::follow` meets its contract: the latencies that are left lead to the list that is asked. Assumes nothing.
use mathlib.Core.Path.{◌≡◌}
use mathlib.Core.Bool.{false}
use Rattle.words.specs.Bits.{is_set}
use Prim.Native.Nat.{◌+◌, ◌-◌}
use Rattle.diagram.proofs.FollowLaws.{Following}
use Rattle.diagram.proofs.follow.Given as goal

abbrev pub invariant-loop-latency : goal.invariant-loop-latency
invariant-loop-latency l =
    Following l.initial.work l.work l.count l.found l.columns l.vector l.state l.latency × (is_set l.state (l.latency - 1) ≡ false)

abbrev pub decreases-loop-latency : goal.decreases-loop-latency
decreases-loop-latency l = l.columns + 2 - l.latency
