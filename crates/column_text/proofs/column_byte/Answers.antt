-- `column_text::column_byte` meets its contract. Assumes nothing.
use mathlib.Core.Path.{sym, ◌∙◌}
use Rattle.text.proofs.RowLaws.{column_one, column_zero}
use Rattle.column_text.proofs.column_byte.Goals as goal

pub returns-then-test : goal.returns-then-test
returns-then-test c =
    let a = c.args in
    column_one a.word a.index (sym c.test.ensures ∙ c.if-test.true)

pub returns : goal.returns
returns c =
    let a = c.args in
    column_zero a.word a.index (sym c.test.ensures ∙ c.if-test.false)
