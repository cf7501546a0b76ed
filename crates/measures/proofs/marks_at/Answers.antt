-- `measures::marks_at` meets its contract. The loop's invariant: the marks of the columns passed are counted. Assumes nothing.
use Prim.Native.Nat.{◌+◌}
use mathlib.Core.Path.{◌≡◌, refl, sym, ap, ◌∙◌}
use native.Mathlib.Omega.{arith}
use Rattle.words.specs.Below.{count_below}
use Rattle.words.specs.Bits.{is_set}
use lib.ListN.{get_or}
use Rattle.words.proofs.BelowLaws.{count_most}
use Rattle.measures.specs.Inner.{marks_at}
use Rattle.measures.proofs.NumberLaws.{marks_before, marks_one, marks_zero}
use Rattle.measures.proofs.marks_at.Goals as goal
use Rattle.measures.proofs.marks_at.Goals.{then-has_mark, else-has_mark}

pub loop-column-init : goal.loop-column-init
unfolding count_below
loop-column-init c = refl

pub overflow_add-marks : goal.overflow_add-marks
overflow_add-marks c =
    omega (arith, c.loop-column.invariant, count_most c.loop-column.column-index (λ k. is_set (get_or c.args.columns k 0) c.args.bit))

pub loop-column-preserved : goal.loop-column-preserved
loop-column-preserved c =
    let a = c.args in
    elim c.if-has_mark.branch [
      | then-has_mark w ↦ w.marks-is ∙ ap (λ n. n + 1) c.loop-column.invariant ∙ marks_one a.columns a.bit c.loop-column.column-index (sym c.has_mark.ensures ∙ w.if-has_mark.true)
      | else-has_mark w ↦ w.marks-is ∙ c.loop-column.invariant ∙ marks_zero a.columns a.bit c.loop-column.column-index (sym c.has_mark.ensures ∙ w.if-has_mark.false)
    ]

pub returns : goal.returns
unfolding marks_at
returns c =
    let e : c.loop-column.column-index ≡ 32 = omega arith in
    c.loop-column.invariant ∙ ap (marks_before c.args.columns c.args.bit) e
