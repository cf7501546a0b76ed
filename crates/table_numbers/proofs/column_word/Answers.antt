-- `table_numbers::column_word` meets its contract. The loop's invariant: the bits of the segments passed are set. Assumes nothing.
use mathlib.Core.Path.{sym, ap, ◌∙◌}
use native.Mathlib.Omega.{arith}
use Rattle.words.specs.Bits.{set_bit}
use Rattle.table_numbers.proofs.FillLaws.{column_start, column_set, column_unset, column_small}
use Rattle.table_numbers.proofs.column_word.Goals as goal
use Rattle.table_numbers.proofs.column_word.Goals.{then-test, else-test}

pub loop-i-init : goal.loop-i-init
loop-i-init c = column_start c.args.columns c.args.number c.args.column

pub loop-i-preserved : goal.loop-i-preserved
loop-i-preserved c =
    let a = c.args in
    let t = sym c.test.ensures in
    elim c.if-test.branch [
      | then-test w ↦ w.marks-is ∙ w.set-marks.ensures ∙ ap (λ m. set_bit m c.loop-i.i) c.loop-i.invariant ∙ column_set a.columns a.number a.column c.loop-i.i (omega arith) (t ∙ w.if-test.true)
      | else-test w ↦ w.marks-is ∙ c.loop-i.invariant ∙ column_unset a.columns a.number a.column c.loop-i.i (t ∙ w.if-test.false)
    ]

pub overflow_cast-result : goal.overflow_cast-result
overflow_cast-result c =
    let a = c.args in
    record { fits = rw c.loop-i.invariant (column_small c.loop-i.i a.columns a.number a.column (omega arith)) }
