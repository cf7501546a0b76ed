-- `player::play` meets its contract. Assumes nothing.
use Prim.Native.Nat.{◌+◌, ◌*◌, ◌≤◌}
use mathlib.Core.Path.{◌≡◌}
use native.Mathlib.Omega.{arith}
use borrow.Author.Rules.{rules}
use lib.ListN.{length}
use Rattle.player.proofs.PlayLaws.{playing_start, playing_more, playing_end}
use Rattle.player.proofs.play.Goals as goal

pub loop-n-init : goal.loop-n-init
loop-n-init c = let a = c.args in playing_start c.fresh-fresh.result.unit a.calls.now a.out.now a.work.now

pub loop-n-preserved : goal.loop-n-preserved
loop-n-preserved c =
    let a = c.args in
    let fits : c.loop-n.n * 262 + 262 ≤ length a.out.now = omega (arith, c.smaller-most.ensures) in
    let size : length c.put_reply.new.out ≡ 262 = search rules in
    playing_more c.fresh-fresh.result.unit a.calls.now a.out.now a.work.now c.loop-n.n c.loop-n.out c.loop-n.work c.loop-n.u
    c.one-played.new.work c.one-played.result.number c.one-played.result.plan c.one-played.result.unit c.put_reply.new.out
    c.loop-n.invariant c.one-played.ensures c.put_reply.ensures size fits

pub returns : goal.returns
returns c =
    let a = c.args in
    let e : c.loop-n.n ≡ c.smaller-most.result = omega arith in
    playing_end a.functions a.segments a.columns c.fresh-fresh.result a.calls.now a.out.now a.work.now c.smaller-most.result c.loop-n.out c.loop-n.work c.loop-n.u
    c.fresh-fresh.ensures (rw e at c.loop-n.invariant) c.smaller-most.ensures
