-- `judge::judge` meets its contract: the vector's answer, then the test for a cycle, then that of its intervals. Assumes nothing.
use mathlib.Core.Path.{sym, ◌∙◌}
use Rattle.words.proofs.Tests.{on, off}
use Rattle.unit.proofs.Exits.{handed_on}
use Rattle.judge.proofs.CycleLaws.{counted_whole}
use Rattle.judge.proofs.VerdictLaws.{judge_refused, judge_bad, judge_good}
use Rattle.judge.proofs.judge.Goals as goal

pub returns-in_err-word : goal.returns-in_err-word
returns-in_err-word c =
    handed_on c.from_residual.ensures.1 (sym (judge_refused _ _ _ _ (sym c.vector.ensures ∙ c.in_err-word.was)))

pub returns-then-not-is_cycle : goal.returns-then-not-is_cycle
returns-then-not-is_cycle c =
    sym (judge_bad _ _ _ _ (sym c.vector.ensures ∙ c.in_ok-word.was)
    (sym (counted_whole c.args.cycle.now) ∙ off c.if-not-is_cycle.true-raw c.is_cycle.ensures))

pub turn_meets-requires : goal.turn_meets-requires
turn_meets-requires c =
    sym (counted_whole c.args.cycle.now) ∙ on c.if-not-is_cycle.false-raw c.is_cycle.ensures

pub returns : goal.returns
returns c =
    sym (judge_good _ _ _ _ _ (sym c.vector.ensures ∙ c.in_ok-word.was)
    (sym (counted_whole c.args.cycle.now) ∙ on c.if-not-is_cycle.false-raw c.is_cycle.ensures)
    (sym c.turn_meets.ensures))
