-- `delays::places_of` meets its contract. Assumes nothing.
use Prim.Native.Nat.{◌<◌}
use mathlib.Core.Path.{refl}
use native.Mathlib.Omega.{arith}
use lib.ListN.{replicate}
use Rattle.delays.proofs.WordLaws.{first_none, placed_more, placed_low}
use Rattle.delays.proofs.places_of.Goals as goal

pub loop-i-init : goal.loop-i-init
loop-i-init c = (omega (arith, first_none (replicate 32 0) 0 refl), record { size = refl; each = λ k h. absurd (omega arith) })

pub loop-i-preserved : goal.loop-i-preserved
loop-i-preserved c =
    let a = c.args in
    let h : c.loop-i.i < 32 = omega arith in (
      placed_low a.columns a.latency c.loop-i.spots c.loop-i.i _ h c.loop-i.invariant.1.size c.place_for-place.ensures.1,
      placed_more a.columns a.latency c.loop-i.spots c.loop-i.i _ h c.loop-i.invariant.1 c.place_for-place.ensures.0,
    )
