-- `drawing::table` meets its contract: the tag is refused, the room too short, or the table written. Assumes nothing.
use Rattle.std.proofs.Common.{Ok}
use mathlib.Core.Path.{◌≡◌, sym, ◌∙◌}
use native.Mathlib.Omega.{arith}
use Rattle.unit.specs.Calls.{tag_answer}
use Rattle.drawing.proofs.AnswerLaws.{sound_unit, table_refused, table_short, table_drawn}
use Rattle.unit.proofs.Exits.{handed_on}
use Rattle.drawing.proofs.table.Goals as goal

pub returns-then-out-length_of : goal.returns-then-out-length_of
returns-then-out-length_of c =
    let passed : tag_answer c.args.u c.args.tag.0 ≡ Ok tt = sym c.check_tag.ensures ∙ c.in_ok-check_tag.was in
    let a = c.args in
    let facts = table_short a.u a.tag.0 passed a.out.now c.length_of.result c.length_of.ensures c.if-out-length_of.true in
    record { value = facts.0; out_after = facts.1 }

pub put_lines-end-requires : goal.put_lines-end-requires
put_lines-end-requires c =
    let passed : tag_answer c.args.u c.args.tag.0 ≡ Ok tt = sym c.check_tag.ensures ∙ c.in_ok-check_tag.was in
    let a = c.args in
    let d = sound_unit a.u a.tag.0 passed in
    (d.segments.1, d.columns.1, omega (arith, c.length_of.ensures, c.if-out-length_of.false))

pub returns-in_err-check_tag : goal.returns-in_err-check_tag
returns-in_err-check_tag c =
    let a = c.args in
    let facts = table_refused a.u a.tag.0 a.out.now _ (sym c.check_tag.ensures ∙ c.in_err-check_tag.was) in
    record { value = handed_on c.from_residual.ensures.1 facts.0; out_after = facts.1 }

pub returns : goal.returns
returns c =
    let passed : tag_answer c.args.u c.args.tag.0 ≡ Ok tt = sym c.check_tag.ensures ∙ c.in_ok-check_tag.was in
    let a = c.args in
    let facts = table_drawn a.u a.tag.0 passed a.out.now c.length_of.result c.length_of.ensures (omega (arith, c.if-out-length_of.false))
    c.columns_of-marks.ensures c.put_lines-end.ensures in
    record { value = facts.0; out_after = facts.1 }
