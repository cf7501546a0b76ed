use Rattle.std.proofs.Common.{◌∙◌, sym, arith}
use Rattle.command.proofs.WordLaws.{skip_more}
use Rattle.command.proofs.scan.word_start.Goals as goal

pub loop-at-preserved : goal.loop-at-preserved
loop-at-preserved c = skip_more c.loop-at.invariant (omega arith) (sym c.is_blank.ensures ∙ c.if-not-is_blank.false)
