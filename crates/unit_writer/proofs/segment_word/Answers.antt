-- `unit_writer::segment_word` meets its contract. The loop's invariant: the bits of the columns passed are noted. Assumes nothing.
use mathlib.Core.Path.{refl, sym, ap, ◌∙◌}
use native.Mathlib.Omega.{arith}
use Rattle.words.specs.Bits.{set_bit}
use Rattle.words.specs.Below.{word_below}
use Rattle.words.proofs.BelowLaws.{word_one, word_none}
use Rattle.unit_file.specs.InnerWrite.{column_mark}
use Rattle.unit_writer.proofs.segment_word.Goals as goal
use Rattle.unit_writer.proofs.segment_word.Goals.{then-has_mark, else-has_mark}

pub loop-column-init : goal.loop-column-init
unfolding word_below
loop-column-init c = refl

pub loop-column-preserved : goal.loop-column-preserved
loop-column-preserved c =
    let f = column_mark c.args.columns c.args.segment in
    elim c.if-has_mark.branch [
      | then-has_mark w ↦ w.word-is ∙ w.set-word.ensures ∙ ap (λ v. set_bit v c.loop-column.column) c.loop-column.invariant ∙ word_one c.loop-column.column f (omega arith) (sym c.has_mark.ensures ∙ w.if-has_mark.true)
      | else-has_mark w ↦ w.word-is ∙ c.loop-column.invariant ∙ word_none c.loop-column.column f (sym c.has_mark.ensures ∙ w.if-has_mark.false)
    ]
