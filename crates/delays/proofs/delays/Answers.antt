-- `delays::delays` meets its contract: its tests in turn. Assumes nothing.
use mathlib.Core.Path.{◌∙◌, sym}
use borrow.Author.Rules.{rules}
use lib.ListN.{get_or}
use mir.Syntax.{w16}
use mir.Val.{Fits}
use Rattle.words.proofs.Tests.{on, off}
use Rattle.unit.proofs.SoundLaws.{Words}
use Rattle.delays.proofs.EndLaws.{crowded_is, suited, tag_left, crowded_left, latency_left, all_placed}
use Rattle.delays.proofs.delays.Goals as goal

pub returns-then-is_crowded : goal.returns-then-is_crowded
returns-then-is_crowded c =
    let words : Words c.args.u = record { count = search rules; small = λ k. let f : Fits w16 (get_or c.args.u.marks k 0) = search rules in f.fits } in
    let t = sym c.check_tag-checked.ensures ∙ c.in-Ok.is in
    c.refused-then-is_crowded.ensures
    ∙ crowded_left c.args.u c.args.tag.0 c.args.latency t (sym (crowded_is c.args.u c.args.tag.0 _ words t c.columns_of-columns.ensures) ∙ sym c.is_crowded.ensures ∙ c.if-is_crowded.true)

pub is_latency-requires : goal.is_latency-requires
is_latency-requires c =
    sym c.check_tag-checked.ensures ∙ c.in-Ok.is

pub returns-then-not-is_latency : goal.returns-then-not-is_latency
returns-then-not-is_latency c =
    let words : Words c.args.u = record { count = search rules; small = λ k. let f : Fits w16 (get_or c.args.u.marks k 0) = search rules in f.fits } in
    let t = sym c.check_tag-checked.ensures ∙ c.in-Ok.is in
    let single = sym (crowded_is c.args.u c.args.tag.0 _ words t c.columns_of-columns.ensures) ∙ sym c.is_crowded.ensures ∙ c.if-is_crowded.false in
    c.refused-then-not-is_latency.ensures ∙ latency_left c.args.u c.args.tag.0 c.args.latency t single (off c.if-not-is_latency.true-raw c.is_latency.ensures)

pub place_all-requires : goal.place_all-requires
place_all-requires c =
    let words : Words c.args.u = record { count = search rules; small = λ k. let f : Fits w16 (get_or c.args.u.marks k 0) = search rules in f.fits } in
    let t = sym c.check_tag-checked.ensures ∙ c.in-Ok.is in
    suited c.args.u c.args.tag.0 c.args.latency _ words t c.columns_of-columns.ensures (on c.if-not-is_latency.false-raw c.is_latency.ensures)

pub returns-in-Err : goal.returns-in-Err
returns-in-Err c =
    c.refused.ensures ∙ tag_left c.args.u c.args.tag.0 c.args.latency _ (sym c.check_tag-checked.ensures ∙ c.in-Err.is)

pub returns-else-not-is_latency : goal.returns-else-not-is_latency
returns-else-not-is_latency c =
    let words : Words c.args.u = record { count = search rules; small = λ k. let f : Fits w16 (get_or c.args.u.marks k 0) = search rules in f.fits } in
    let t = sym c.check_tag-checked.ensures ∙ c.in-Ok.is in
    let single = sym (crowded_is c.args.u c.args.tag.0 _ words t c.columns_of-columns.ensures) ∙ sym c.is_crowded.ensures ∙ c.if-is_crowded.false in
    c.place_all.ensures
    ∙ all_placed c.args.u c.args.tag.0 c.args.latency t single _ c.columns_of-columns.ensures (on c.if-not-is_latency.false-raw c.is_latency.ensures)
