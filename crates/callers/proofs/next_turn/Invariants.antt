-- `callers::next_turn` meets its contract: the search goes on from each caller without work to the next (`Going`). Assumes nothing.
use Prim.Native.Nat.{◌-◌}
use Rattle.callers.proofs.RoundLaws.{Going}
use Rattle.callers.proofs.next_turn.Given as goal

abbrev pub invariant-loop : goal.invariant-loop
invariant-loop l = Going l.callers l.counts l.from l.caller (l.callers - l.counter)
