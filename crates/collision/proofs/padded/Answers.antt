use Rattle.std.proofs.Common.{◌≡◌, ℕ, refl, arith, rules}
use lib.ListN.{length-replicate}
use Rattle.collision.proofs.CommonLaws.{filled_start, filled_more, padded_all}
use Rattle.collision.proofs.padded.Goals as goal

pub loop-i-init : goal.loop-i-init
loop-i-init c = filled_start _ _

pub loop-i-preserved : goal.loop-i-preserved
loop-i-preserved c = filled_more _ _ _ c.loop-i.i _ (omega (arith, length-replicate {A = ℕ} 64 0)) refl c.loop-i.invariant

pub returns : goal.returns
returns c =
    let e : c.loop-i.i ≡ 32 = omega arith in
    padded_all c.args.columns c.loop-i.wide (search rules) (rw e at c.loop-i.invariant)
