-- `unit_file::reader::check_body` meets its contract: its tests in turn. Assumes nothing.
use mathlib.Core.Path.{◌≡◌, sym, ◌∙◌}
use mathlib.Core.Bool.{true}
use borrow.Author.Tests.{eq-eqb, ne_eqb}
use lib.Dec.{eqb}
use lib.ListN.{length}
use Rattle.words.proofs.Tests.{on, off}
use Rattle.unit_file.specs.File.{file_length}
use Rattle.unit_file.specs.Read.{functions_in, segments_in}
use Rattle.unit_file.specs.InnerRead.{Whole, body_answer}
use Rattle.unit_file.proofs.reader.check_body.Goals as goal

pub returns-then-file-whole_length : goal.returns-then-file-whole_length
unfolding body_answer
returns-then-file-whole_length c =
    let f = c.args.file.now in
    simp (ne_eqb (length f) (file_length (functions_in f) (segments_in f)) (λ e. c.if-file-whole_length.true (e ∙ sym c.whole_length.ensures)))

pub header_is_good-requires : goal.header_is_good-requires
header_is_good-requires c =
    let whole : Whole c.args.file.now = record { counts = c.requires; size = c.if-file-whole_length.false ∙ c.whole_length.ensures } in
    let size : (let f = c.args.file.now in eqb (length f) (file_length (functions_in f) (segments_in f)) ≡ true) = eq-eqb _ _ whole.size in
    whole

pub returns-then-not-header_is_good : goal.returns-then-not-header_is_good
unfolding body_answer
returns-then-not-header_is_good c =
    let whole : Whole c.args.file.now = record { counts = c.requires; size = c.if-file-whole_length.false ∙ c.whole_length.ensures } in
    let size : (let f = c.args.file.now in eqb (length f) (file_length (functions_in f) (segments_in f)) ≡ true) = eq-eqb _ _ whole.size in
    simp (size, off c.if-not-header_is_good.true-raw c.header_is_good.ensures)

pub has_marks_beyond-requires : goal.has_marks_beyond-requires
has_marks_beyond-requires c =
    let whole : Whole c.args.file.now = record { counts = c.requires; size = c.if-file-whole_length.false ∙ c.whole_length.ensures } in
    let size : (let f = c.args.file.now in eqb (length f) (file_length (functions_in f) (segments_in f)) ≡ true) = eq-eqb _ _ whole.size in
    whole

pub returns-then-has_marks_beyond : goal.returns-then-has_marks_beyond
unfolding body_answer
returns-then-has_marks_beyond c =
    let whole : Whole c.args.file.now = record { counts = c.requires; size = c.if-file-whole_length.false ∙ c.whole_length.ensures } in
    let size : (let f = c.args.file.now in eqb (length f) (file_length (functions_in f) (segments_in f)) ≡ true) = eq-eqb _ _ whole.size in
    simp (size, on c.if-not-header_is_good.false-raw c.header_is_good.ensures, sym c.has_marks_beyond.ensures ∙ c.if-has_marks_beyond.true)

pub returns : goal.returns
unfolding body_answer
returns c =
    let whole : Whole c.args.file.now = record { counts = c.requires; size = c.if-file-whole_length.false ∙ c.whole_length.ensures } in
    let size : (let f = c.args.file.now in eqb (length f) (file_length (functions_in f) (segments_in f)) ≡ true) = eq-eqb _ _ whole.size in
    simp (size, on c.if-not-header_is_good.false-raw c.header_is_good.ensures, sym c.has_marks_beyond.ensures ∙ c.if-has_marks_beyond.false)
