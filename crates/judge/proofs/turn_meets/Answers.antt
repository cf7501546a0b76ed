use Rattle.std.proofs.Common.{sym, ◌∙◌, arith}
use Rattle.judge.proofs.IntervalLaws.{turn_hit, turn_all}
use Rattle.judge.proofs.turn_meets.Goals as goal

pub returns-then-start_meets : goal.returns-then-start_meets
returns-then-start_meets c = sym (turn_hit _ _ c.loop-start.start (omega arith) (sym c.start_meets.ensures ∙ c.if-start_meets.true))

pub returns : goal.returns
returns c = sym (turn_all _ _ (λ i h. c.loop-start.invariant i (omega arith)))
