-- `loops::listing::explore` meets its contract: the states before the present place are done. Assumes nothing.
use Rattle.loops.proofs.FollowLaws.{explore_more, explored_over, explored_all, begin_size, begin_high}
use Rattle.loops.proofs.listing.explore.Goals as goal

pub returns-then-count-gt256 : goal.returns-then-count-gt256
returns-then-count-gt256 c =
    explored_over {w = c.args.work.now} (begin_size c.args.work.now c.put.new.work c.started-first.result c.put.ensures) (begin_high c.args.work.now c.put.new.work c.started-first.result c.put.ensures) c.loop-at.invariant c.loop-at-test.true c.follow-count.ensures c.if-count-gt256.true

pub loop-at-preserved : goal.loop-at-preserved
loop-at-preserved c = explore_more c.loop-at.invariant c.loop-at-test.true c.follow-count.ensures c.if-count-gt256.false

pub returns : goal.returns
returns c =
    explored_all (begin_size c.args.work.now c.put.new.work c.started-first.result c.put.ensures) (begin_high c.args.work.now c.put.new.work c.started-first.result c.put.ensures) c.loop-at.invariant c.loop-at-test.false
