use Rattle.std.proofs.Common.{arith}
use Rattle.unit.proofs.JoinLaws.{beyond_start, beyond_more}
use Rattle.unit.proofs.joined_beyond.Goals as goal

pub loop-column-init : goal.loop-column-init
loop-column-init c = beyond_start c.args.words.now c.args.columns

pub loop-column-preserved : goal.loop-column-preserved
loop-column-preserved c = beyond_more c.args.words.now c.args.columns c.loop-column.column c.loop-column.all (omega arith) (omega arith) c.loop-column.invariant
