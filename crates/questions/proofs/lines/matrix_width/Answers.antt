-- `questions::lines::matrix_width` meets its contract. Assumes nothing.
use mathlib.Core.Path.{◌≡◌, refl, ap, ◌∙◌}
use native.Mathlib.Omega.{arith}
use Rattle.words.specs.Below.{max_below}
use Rattle.unit.specs.Unit.{marked}
use Rattle.questions.specs.Replies.{matrix_width}
use Rattle.questions.proofs.WidthLaws.{row_width, widest_kept, widest_new}
use Rattle.questions.proofs.lines.matrix_width.Goals as goal
use Rattle.questions.proofs.lines.matrix_width.Goals.{then-widest-columns, else-widest-columns}

pub loop-tag-init : goal.loop-tag-init
unfolding max_below
loop-tag-init c = refl

pub loop-tag-preserved : goal.loop-tag-preserved
loop-tag-preserved c =
    let a = c.args in
    elim c.if-widest-columns.branch [
      | then-widest-columns b ↦ b.widest-is ∙ c.row_width-columns.ensures ∙ widest_new (marked a.u) a.r.0 c.loop-tag.tag (omega (arith, c.loop-tag.invariant, c.row_width-columns.ensures, b.if-widest-columns.true))
      | else-widest-columns b ↦ b.widest-is ∙ c.loop-tag.invariant ∙ widest_kept (marked a.u) a.r.0 c.loop-tag.tag (omega (arith, c.loop-tag.invariant, c.row_width-columns.ensures, b.if-widest-columns.false))
    ]

pub returns : goal.returns
unfolding matrix_width
returns c =
    let a = c.args in
    let e : c.loop-tag.tag ≡ 4 = omega arith in
    c.loop-tag.invariant ∙ ap (λ n. max_below n (row_width (marked a.u) a.r.0)) e
