-- `questions::lines::put_verdict` meets its contract. Assumes nothing.
use mathlib.Core.Path.{sym, ap}
use native.Mathlib.Omega.{arith}
use Rattle.text.proofs.WroteLaws.{wrote_one}
use Rattle.text.proofs.RowLaws.{wrote_as}
use Rattle.questions.specs.Replies.{verdict_line}
use Rattle.questions.proofs.lines.put_verdict.Goals as goal

pub returns-in-Ok-true : goal.returns-in-Ok-true
returns-in-Ok-true c =
    wrote_as (wrote_one (c.put.ensures.value, c.put.ensures.out_after) (omega (arith, c.requires))) (ap verdict_line (sym (rw c.in-Ok-true.field-0-test at c.in-Ok-true.is)))

pub returns-in-Ok-false : goal.returns-in-Ok-false
returns-in-Ok-false c =
    wrote_as (wrote_one (c.put-in-Ok-false.ensures.value, c.put-in-Ok-false.ensures.out_after) (omega (arith, c.requires))) (ap verdict_line (sym (rw c.in-Ok-false.field-0-test at c.in-Ok-false.is)))

pub returns-in-Err : goal.returns-in-Err
returns-in-Err c = wrote_as c.put_refusal.ensures (ap verdict_line (sym c.in-Err.is))
