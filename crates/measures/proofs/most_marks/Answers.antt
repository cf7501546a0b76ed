-- `measures::most_marks` meets its contract. The loop's invariant: the largest number of the bits passed is kept. Assumes nothing.
use mathlib.Core.Path.{◌≡◌, refl, ap, ◌∙◌}
use native.Mathlib.Omega.{arith}
use Rattle.words.specs.Below.{max_below}
use Rattle.measures.specs.Inner.{marks_at, most_marks}
use Rattle.measures.proofs.NumberLaws.{most_kept, most_new}
use Rattle.measures.proofs.most_marks.Goals as goal
use Rattle.measures.proofs.most_marks.Goals.{then-most-marks, else-most-marks}

pub loop-bit-init : goal.loop-bit-init
unfolding max_below
loop-bit-init c = refl

pub loop-bit-preserved : goal.loop-bit-preserved
loop-bit-preserved c =
    let a = c.args in
    elim c.if-most-marks.branch [
      | then-most-marks w ↦ w.most-is ∙ c.marks_at-marks.ensures ∙ most_new a.columns c.loop-bit.bit (omega (arith, c.loop-bit.invariant, w.if-most-marks.true))
      | else-most-marks w ↦ w.most-is ∙ c.loop-bit.invariant ∙ most_kept a.columns c.loop-bit.bit (omega (arith, c.loop-bit.invariant, w.if-most-marks.false))
    ]

pub returns : goal.returns
unfolding most_marks
returns c =
    let e : c.loop-bit.bit ≡ 16 = omega arith in
    c.loop-bit.invariant ∙ ap (λ n. max_below n (marks_at c.args.columns)) e
