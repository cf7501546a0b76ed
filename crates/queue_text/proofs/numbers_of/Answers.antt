-- `queue_text::numbers_of` meets its contract. Assumes nothing.
use mathlib.Core.Path.{refl}
use native.Mathlib.Omega.{arith}
use borrow.Author.Rules.{rules}
use lib.ListN.{length-take, take}
use Rattle.queue_text.specs.Told.{flat}
use Rattle.queue_text.proofs.FlatLaws.{flat_step}
use Rattle.queue_text.proofs.numbers_of.Goals as goal

pub loop-i-init : goal.loop-i-init
unfolding flat
loop-i-init c = (refl, refl)

pub loop-i-preserved : goal.loop-i-preserved
loop-i-preserved c =
    let a = c.args in (
      flat_step c.loop-i.numbers (take a.count a.list) c.loop-i.i c.loop-i.invariant.0 (omega (arith, c.loop-i.invariant.1, length-take a.count a.list)) c.loop-i-test.true,
      search rules,
    )
