-- `unit_file::reader::check_file` meets its contract: the shortest length, then the counts, then the rest. Assumes nothing.
use Rattle.std.proofs.Common.{Ok}
use mathlib.Core.Path.{◌≡◌, sym, ap, ◌∙◌}
use mathlib.Core.Bool.{true}
use borrow.Author.Tests.{lt-leb}
use Rattle.unit.specs.declared.Outcome.{Outcome}
use Rattle.unit.specs.declared.Refusal.TheVariants.{NotSound}
use Rattle.unit.specs.Unit.{good_counts}
use Rattle.unit.specs.Calls.{fresh_of}
use Rattle.unit.proofs.Laws.{check_ok}
use Rattle.unit.proofs.Exits.{handed_on}
use Rattle.unit_file.specs.Read.{functions_in, segments_in, columns_in, read_answer}
use Rattle.unit_file.proofs.ReadLaws.{counted, read_body, read_counts}
use Rattle.unit_file.proofs.reader.check_file.Goals as goal

pub check_body-requires : goal.check_body-requires
unfolding fresh_of
check_body-requires c =
    let good : (let f = c.args.file.now in good_counts (functions_in f) (segments_in f) (columns_in f) ≡ true) = check_ok _ NotSound (Ok tt) (sym (ap (λ (o : Outcome). o.answer) c.fresh-made.ensures) ∙ c.in_ok-made.was) in
    counted c.args.file.now c.if-file-lt4.false good

pub returns-in_err-made : goal.returns-in_err-made
unfolding fresh_of
returns-in_err-made c =
    handed_on c.from_residual.ensures.1
    (sym (read_counts c.args.file.now _ c.if-file-lt4.false (sym (ap (λ (o : Outcome). o.answer) c.fresh-made.ensures) ∙ c.in_err-made.was)))

pub returns : goal.returns
unfolding fresh_of
returns c =
    let good : (let f = c.args.file.now in good_counts (functions_in f) (segments_in f) (columns_in f) ≡ true) = check_ok _ NotSound (Ok tt) (sym (ap (λ (o : Outcome). o.answer) c.fresh-made.ensures) ∙ c.in_ok-made.was) in
    c.check_body.ensures ∙ read_body c.args.file.now c.if-file-lt4.false good

pub returns-then-file-lt4 : goal.returns-then-file-lt4
unfolding read_answer
returns-then-file-lt4 c = simp (lt-leb _ _ c.if-file-lt4.true)
