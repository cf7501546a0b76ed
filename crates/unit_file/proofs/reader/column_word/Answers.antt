-- `unit_file::reader::column_word` meets its contract. The loop's invariant: the bits of the segments passed are set. Assumes nothing.
use Prim.Native.Nat.{◌-◌}
use mathlib.Core.Path.{◌≡◌, sym, ap, ◌∙◌}
use native.Mathlib.Omega.{arith}
use Rattle.words.specs.Bits.{is_set, set_bit}
use Rattle.unit_file.specs.Read.{segments_in}
use Rattle.unit_file.proofs.ColumnLaws.{column_up_to, column_start, column_set, column_unset, column_small, column_end}
use Rattle.unit_file.proofs.reader.column_word.Goals as goal
use Rattle.unit_file.proofs.reader.column_word.Goals.{then-test, else-test}

pub loop-i-init : goal.loop-i-init
loop-i-init c = column_start c.args.file.now c.table_at-first.result c.args.column

pub loop-i-preserved : goal.loop-i-preserved
loop-i-preserved c =
    let f = c.args.file.now in
    let k = c.args.column in
    let t = sym (ap (λ w. is_set w (k - 1)) c.word_at-word.ensures) ∙ sym c.test.ensures in
    elim c.if-test.branch [
      | then-test w ↦ w.marks-is ∙ w.set-marks.ensures ∙ ap (λ m. set_bit m c.loop-i.i) c.loop-i.invariant ∙ column_set f c.table_at-first.result k c.loop-i.i (omega arith) (t ∙ w.if-test.true)
      | else-test w ↦ w.marks-is ∙ c.loop-i.invariant ∙ column_unset f c.table_at-first.result k c.loop-i.i (t ∙ w.if-test.false)
    ]

pub overflow_cast-result : goal.overflow_cast-result
overflow_cast-result c =
    record { fits = rw c.loop-i.invariant (column_small c.args.file.now c.table_at-first.result c.args.column c.loop-i.i (omega arith)) }

pub returns : goal.returns
returns c =
    let f = c.args.file.now in
    let e : c.loop-i.i ≡ segments_in f = omega arith in
    c.loop-i.invariant ∙ ap (column_up_to f c.table_at-first.result c.args.column) e
    ∙ ap (λ a. column_up_to f a c.args.column (segments_in f)) c.table_at-first.ensures ∙ column_end f c.args.tag c.args.column
