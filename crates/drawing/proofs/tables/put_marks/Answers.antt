-- `drawing::tables::put_marks` meets its contract. Assumes nothing.
use mathlib.Core.Path.{ap, ◌∙◌}
use native.Mathlib.Omega.{arith}
use lib.ListN.{length-take}
use lib.Seq.{get_or-take}
use Rattle.words.specs.Bits.{is_set}
use Rattle.text.proofs.BoundedLaws.{put_as, put_join_start, put_join_more}
use Rattle.drawing.specs.Tables.{cell, mark_text}
use Rattle.drawing.specs.Inner.{mark_cell}
use Rattle.drawing.proofs.tables.put_marks.Goals as goal

pub loop-word-init : goal.loop-word-init
loop-word-init c = let a = c.args in put_join_start 3 (mark_cell a.marks a.segment) (omega arith)

pub loop-word-preserved : goal.loop-word-preserved
loop-word-preserved c =
    let a = c.args in
    let k = c.loop-word.word-index in
    let w = get_or-take a.columns a.marks k 0 (omega (arith, length-take a.columns a.marks)) in
    let p = put_as {n = 3} c.put_mark_cell-end.ensures (ap (λ b. cell (mark_text b)) (c.test.ensures ∙ ap (λ x. is_set x a.segment) w)) (omega arith) in
    put_join_more 3 k (mark_cell a.marks a.segment) c.loop-word.invariant p
