-- `questions::lines::put_row` meets its contract. Assumes nothing.
use native.Mathlib.Omega.{arith}
use Rattle.unit.specs.Unit.{marked}
use Rattle.text.proofs.RowLaws.{wrote_as}
use Rattle.questions.proofs.WidthLaws.{matrix_most}
use Rattle.questions.proofs.ReplyLaws.{row_refused, row_shown}
use Rattle.questions.proofs.lines.put_row.Goals as goal

pub put_columns-requires : goal.put_columns-requires
put_columns-requires c =
    (omega arith, omega (arith, c.matrix_width-columns.ensures, matrix_most (marked c.args.u) c.args.r.0), c.requires)

pub returns-in-Err : goal.returns-in-Err
returns-in-Err c =
    wrote_as c.put_refusal.ensures (row_refused _ _ _ c.matrix_row-asked.ensures c.in-Err.is)

pub returns-in-Ok : goal.returns-in-Ok
returns-in-Ok c =
    wrote_as c.put_columns.ensures (row_shown _ _ _ c.matrix_row-asked.ensures c.in-Ok.is c.matrix_width-columns.ensures)
