-- `edits::mark` meets its contract: a refused edit leaves the unit, an accepted one gives the column its word with the mark. Assumes nothing.
use Rattle.std.proofs.Common.{Ok}
use mathlib.Core.Path.{◌≡◌, sym, ◌∙◌}
use native.Mathlib.Omega.{arith}
use lib.ListN.{get_or}
use mir.Syntax.{w16}
use mir.Val.{Fits}
use Rattle.unit.specs.Calls.{spot_answer, mark_of}
use Rattle.unit.proofs.Laws.{Ranges, edit_ranges}
use Rattle.unit.proofs.SoundLaws.{Words}
use Rattle.unit.proofs.TableLaws.{mark_by_column}
use borrow.Author.Rules.{rules}
use Rattle.edits.proofs.mark.Goals as goal

pub returns-in_default : goal.returns-in_default
unfolding mark_of
returns-in_default c = simp (sym c.check_spot-answer.ensures ∙ c.in_default.is, c.in_default.is)

pub overflow_sub-word : goal.overflow_sub-word
overflow_sub-word c =
    let accepting : spot_answer c.args.u c.args.tag.0 c.args.segment.0 c.args.column ≡ Ok tt = sym c.check_spot-answer.ensures ∙ c.in-Ok.is in
    let allowed : Ranges c.args.u c.args.tag.0 c.args.segment.0 c.args.column = edit_ranges _ _ _ _ accepting in
    let r = allowed in omega arith

pub bounds-marks-column : goal.bounds-marks-column
bounds-marks-column c =
    let accepting : spot_answer c.args.u c.args.tag.0 c.args.segment.0 c.args.column ≡ Ok tt = sym c.check_spot-answer.ensures ∙ c.in-Ok.is in
    let allowed : Ranges c.args.u c.args.tag.0 c.args.segment.0 c.args.column = edit_ranges _ _ _ _ accepting in
    let r = allowed in omega arith

pub with_mark-marked-requires : goal.with_mark-marked-requires
with_mark-marked-requires c =
    let accepting : spot_answer c.args.u c.args.tag.0 c.args.segment.0 c.args.column ≡ Ok tt = sym c.check_spot-answer.ensures ∙ c.in-Ok.is in
    let allowed : Ranges c.args.u c.args.tag.0 c.args.segment.0 c.args.column = edit_ranges _ _ _ _ accepting in
    let r = allowed in omega arith

pub returns : goal.returns
returns c =
    let accepting : spot_answer c.args.u c.args.tag.0 c.args.segment.0 c.args.column ≡ Ok tt = sym c.check_spot-answer.ensures ∙ c.in-Ok.is in
    let words : Words c.args.u = record { count = search rules; small = λ k. let f : Fits w16 (get_or c.args.u.marks k 0) = search rules in f.fits } in
    mark_by_column _ _ _ _ words accepting c.columns_of-marks.ensures c.with_mark-marked.ensures c.with_column.ensures
