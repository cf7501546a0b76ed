-- `questions::lines::put_vector` meets its contract. Assumes nothing.
use native.Mathlib.Omega.{arith}
use Rattle.text.proofs.RowLaws.{wrote_as}
use Rattle.diagram.proofs.WidthLaws.{width_le}
use Rattle.questions.proofs.ReplyLaws.{vector_refused, vector_shown}
use Rattle.questions.proofs.lines.put_vector.Goals as goal

pub put_columns-requires : goal.put_columns-requires
put_columns-requires c =
    (omega arith, omega (arith, c.width_of-columns.ensures, width_le c.in-Ok.vector), c.requires)

pub returns-in-Err : goal.returns-in-Err
returns-in-Err c =
    wrote_as c.put_refusal.ensures (vector_refused _ _ c.vector-asked.ensures c.in-Err.is)

pub returns-in-Ok : goal.returns-in-Ok
returns-in-Ok c =
    wrote_as c.put_columns.ensures (vector_shown _ _ c.vector-asked.ensures c.in-Ok.is c.width_of-columns.ensures)
