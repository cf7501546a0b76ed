-- `drawing::tables::put_mark_cell` meets its contract. Assumes nothing.
use mathlib.Core.Path.{ap, sym}
use native.Mathlib.Omega.{arith}
use Rattle.text.proofs.BoundedLaws.{put_one, put_as}
use Rattle.drawing.specs.Tables.{cell, mark_text}
use Rattle.drawing.proofs.tables.put_mark_cell.Goals as goal

pub returns-then-marked : goal.returns-then-marked
returns-then-marked c =
    put_as (put_one 3 _ (c.put.ensures.value, c.put.ensures.out_after) (omega arith) (omega arith)) (ap (λ c. cell (mark_text c)) (sym c.if-marked.true)) (omega arith)

pub returns : goal.returns
returns c =
    put_as (put_one 3 _ (c.put-2.ensures.value, c.put-2.ensures.out_after) (omega arith) (omega arith)) (ap (λ c. cell (mark_text c)) (sym c.if-marked.false)) (omega arith)
