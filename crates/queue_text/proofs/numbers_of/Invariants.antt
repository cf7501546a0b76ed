-- `queue_text::numbers_of` meets its contract: before record i, the numbers of those before it are in. Assumes nothing.
use mathlib.Core.Path.{◌≡◌}
use Prim.Native.Nat.{◌*◌}
use lib.ListN.{length, take}
use Rattle.queue_text.specs.Told.{flat}
use Rattle.queue_text.proofs.numbers_of.Given as goal

abbrev pub invariant-loop-i : goal.invariant-loop-i
invariant-loop-i l = (take (2 * l.i) l.numbers ≡ flat (take l.i l.waiting-items)) × (length l.numbers ≡ 64)
