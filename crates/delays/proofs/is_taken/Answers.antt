-- `delays::is_taken` meets its contract. Assumes nothing.
use Prim.Native.Nat.{◌%◌}
use mathlib.Core.Path.{◌≡◌, ◌∙◌, ap}
use mathlib.Core.Bool.{◌&&◌, ◌||◌}
use native.Mathlib.Omega.{arith}
use lib.Dec.{eqb}
use lib.ListN.{get_or}
use Rattle.collision.specs.Vector.{meet}
use Rattle.delays.proofs.WordLaws.{taken_by, by_none, by_more, by_all}
use Rattle.delays.proofs.is_taken.Goals as goal

pub loop-i-init : goal.loop-i-init
loop-i-init c = by_none _ _ _ _ _

pub loop-i-preserved : goal.loop-i-preserved
loop-i-preserved c =
    let a = c.args in
    c.is_taken_more-taken.ensures
    ∙ ap (λ t. meet (get_or a.columns c.loop-i.i 0) (get_or a.columns a.count 0) && eqb (get_or a.spots c.loop-i.i 0 % a.latency) (a.place % a.latency) || t) c.loop-i.invariant
    ∙ by_more a.columns a.spots a.count a.latency a.place c.loop-i.i

pub returns : goal.returns
returns c =
    let a = c.args in
    let e : c.loop-i.i ≡ a.count = omega arith in
    c.loop-i.invariant ∙ ap (taken_by a.columns a.spots a.count a.latency a.place) e ∙ by_all _ _ _ _ _
