-- `plan_record::write_ring` meets its contract. The loop's invariant: the bytes passed are those of the ring. Assumes nothing.
use Prim.Native.Nat.{◌*◌}
use mathlib.Core.Path.{◌≡◌}
use Rattle.words.specs.Below.{list_below}
use Rattle.text.specs.Text.{placed}
use Rattle.plan_record.specs.Record.{ring_byte}
use Rattle.plan_record.specs.Inner.{Reached}
use Rattle.plan_record.proofs.write_ring.Given as goal

abbrev pub invariant-loop-j : goal.invariant-loop-j
invariant-loop-j l = Reached l.list (8 * l.j) l.index l.next × (l.out ≡ placed l.initial.out l.at (list_below l.j (ring_byte l.list)))
