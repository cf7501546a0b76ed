-- `table_numbers::table` meets its contract: a refused number leaves the unit of no counts, an accepted one its own. Assumes nothing.
use Rattle.std.proofs.Common.{Ok}
use mathlib.Core.Path.{◌≡◌, sym, ◌∙◌}
use Rattle.unit.specs.Calls.{fresh_of}
use Rattle.table_numbers.specs.Tables.{small_table_answer, small_table_of}
use Rattle.table_numbers.proofs.TableLaws.{table_accepted}
use Rattle.table_numbers.proofs.table.Goals as goal

pub fill-filled-requires : goal.fill-filled-requires
fill-filled-requires c =
    let accepting : small_table_answer c.args.segments c.args.columns c.args.number ≡ Ok tt = sym c.check_number-answer.ensures ∙ c.in-Ok.is in
    (table_accepted _ _ _ accepting).size

pub returns-in-Err : goal.returns-in-Err
unfolding small_table_of fresh_of
returns-in-Err c =
    simp (c.fresh-made.ensures, sym c.check_number-answer.ensures ∙ c.in-Err.is)

pub returns-in-Ok : goal.returns-in-Ok
unfolding small_table_of
returns-in-Ok c =
    let accepting : small_table_answer c.args.segments c.args.columns c.args.number ≡ Ok tt = sym c.check_number-answer.ensures ∙ c.in-Ok.is in
    simp (accepting, c.fill-filled.ensures)
