-- `loops::listing::follow` meets its contract: the latencies before the present one are done. Assumes nothing.
use Rattle.loops.proofs.FollowLaws.{follow_more, followed_over, followed_all}
use Rattle.loops.proofs.listing.follow.Goals as goal

pub returns-then-found-gt256 : goal.returns-then-found-gt256
returns-then-found-gt256 c =
    followed_over _ _ _ _ c.requires.listable _ _ c.get-s.ensures c.mask-word.ensures _ _ _ _ _ c.loop-latency.invariant c.loop-latency-test.true c.turn-found.ensures c.if-found-gt256.true

pub loop-latency-preserved : goal.loop-latency-preserved
loop-latency-preserved c =
    follow_more c.loop-latency.invariant c.requires.listable.inside c.loop-latency-test.true c.turn-found.ensures c.if-found-gt256.false

pub returns : goal.returns
returns c =
    followed_all _ _ _ _ c.requires.listable _ _ c.get-s.ensures c.mask-word.ensures _ _ _ c.loop-latency.invariant c.loop-latency-test.false c.args.rules.now.slim
