use Rattle.std.proofs.Common.{arith}
use Rattle.unit.proofs.JoinLaws.{between_start, between_more}
use Rattle.unit.proofs.joined_from.Goals as goal

pub loop-i-init : goal.loop-i-init
loop-i-init c = between_start c.args.words.now c.args.from

pub loop-i-preserved : goal.loop-i-preserved
loop-i-preserved c = between_more c.args.words.now c.args.from c.loop-i.i c.loop-i.all (omega arith) c.loop-i.invariant
