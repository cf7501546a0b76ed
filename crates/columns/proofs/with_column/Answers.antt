-- `columns::with_column` meets its contract: a refused call leaves the unit, an accepted one has another word in its place. Assumes nothing.
use Rattle.std.proofs.Common.{Ok}
use mathlib.Core.Path.{◌≡◌, sym, ◌∙◌}
use Rattle.unit.specs.Calls.{column_answer, column_of}
use Rattle.unit.proofs.Laws.{column_range}
use Rattle.columns.proofs.with_column.Goals as goal

pub with_word-filled-requires : goal.with_word-filled-requires
with_word-filled-requires c =
    let accepting : column_answer c.args.u c.args.tag.0 c.args.column c.args.word ≡ Ok tt = sym c.check_column-answer.ensures ∙ c.in-Ok.is in
    let a = c.args in
    column_range a.u a.tag.0 a.column a.word accepting

pub returns-in-Err : goal.returns-in-Err
unfolding column_of
returns-in-Err c = simp (sym c.check_column-answer.ensures ∙ c.in-Err.is)

pub returns-in-Ok : goal.returns-in-Ok
unfolding column_of
returns-in-Ok c =
    let accepting : column_answer c.args.u c.args.tag.0 c.args.column c.args.word ≡ Ok tt = sym c.check_column-answer.ensures ∙ c.in-Ok.is in
    simp (accepting, c.with_word-filled.ensures)
