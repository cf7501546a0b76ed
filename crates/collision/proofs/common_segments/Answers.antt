use Rattle.std.proofs.Common.{◌≡◌, refl, arith}
use Rattle.collision.proofs.CommonLaws.{collected_start, collected_more, collected_all}
use Rattle.collision.proofs.common_segments.Goals as goal

pub loop-passed-init : goal.loop-passed-init
loop-passed-init c = (refl, collected_start c.args.later c.padded-wide.result)

pub loop-passed-preserved : goal.loop-passed-preserved
loop-passed-preserved c =
    (c.join_column.ensures.long, collected_more c.args.later c.padded-wide.result c.loop-passed.common c.join_column.new.common c.loop-passed.passed c.join_column.ensures c.loop-passed.invariant.1)

pub returns : goal.returns
returns c =
    let a = c.args in
    let e : c.loop-passed.passed ≡ 32 = omega arith in
    collected_all a.later a.earlier c.padded-wide.result c.loop-passed.common c.padded-wide.ensures (rw e at c.loop-passed.invariant.1)
