-- `plan_record::ring_matches` meets its contract. The loop's invariant: the bytes passed are those of the ring. Assumes nothing.
use Prim.Native.Nat.{ℕ, ◌<◌, ◌*◌}
use mathlib.Core.Path.{◌≡◌}
use lib.ListN.{get_or}
use Rattle.plan_record.specs.Record.{ring_byte}
use Rattle.plan_record.specs.Inner.{Reached}
use Rattle.plan_record.proofs.ring_matches.Given as goal

abbrev pub invariant-loop-j : goal.invariant-loop-j
invariant-loop-j l = Reached l.list (8 * l.j) l.index l.next × ((k : ℕ) → k < l.j → get_or l.ring k 0 ≡ ring_byte l.list k)
