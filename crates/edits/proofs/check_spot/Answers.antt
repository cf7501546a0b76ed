-- `edits::check_spot` meets its contract: the unit and the tag first, then segment and column. Assumes nothing.
use Rattle.std.proofs.Common.{Ok}
use mathlib.Core.Path.{◌≡◌, sym, ◌∙◌}
use Rattle.words.proofs.Tests.{on, off}
use Rattle.unit.specs.Calls.{tag_answer}
use Rattle.unit.proofs.Laws.{spot_tag, spot_rest}
use Rattle.unit.proofs.Exits.{handed_on}
use Rattle.edits.proofs.check_spot.Goals as goal

pub returns-then-not-is_inside : goal.returns-then-not-is_inside
returns-then-not-is_inside c =
    let a = c.args in
    let t : tag_answer a.u a.tag.0 ≡ Ok tt = sym c.check_tag.ensures ∙ c.in_ok-check_tag.was in
    let r = spot_rest a.u a.tag.0 a.segment.0 a.column t in
    rw r (simp (off c.if-not-is_inside.true-raw c.is_inside.ensures))

pub returns-then-not-is_inside-2 : goal.returns-then-not-is_inside-2
returns-then-not-is_inside-2 c =
    let a = c.args in
    let t : tag_answer a.u a.tag.0 ≡ Ok tt = sym c.check_tag.ensures ∙ c.in_ok-check_tag.was in
    let r = spot_rest a.u a.tag.0 a.segment.0 a.column t in
    rw r (simp (on c.if-not-is_inside.false-raw c.is_inside.ensures, off c.if-not-is_inside-2.true-raw c.is_inside-2.ensures))

pub returns-in_err-check_tag : goal.returns-in_err-check_tag
returns-in_err-check_tag c = handed_on c.from_residual.ensures.1 (let a = c.args in
    sym (spot_tag a.u a.tag.0 a.segment.0 a.column _ (sym c.check_tag.ensures ∙ c.in_err-check_tag.was)))

pub returns : goal.returns
returns c =
    let a = c.args in
    let t : tag_answer a.u a.tag.0 ≡ Ok tt = sym c.check_tag.ensures ∙ c.in_ok-check_tag.was in
    let r = spot_rest a.u a.tag.0 a.segment.0 a.column t in
    rw r (simp (on c.if-not-is_inside.false-raw c.is_inside.ensures, on c.if-not-is_inside-2.false-raw c.is_inside-2.ensures))
