-- `unit_file::reader::read` meets its contract: a refused file leaves the unit of no counts, an accepted one its own. Assumes nothing.
use Rattle.std.proofs.Common.{Ok}
use mathlib.Core.Path.{◌≡◌, sym, ◌∙◌}
use Rattle.unit.specs.Calls.{fresh_of}
use Rattle.unit_file.specs.Read.{read_answer, read_of}
use Rattle.unit_file.proofs.ReadLaws.{accepted_clean}
use Rattle.unit_file.proofs.reader.read.Goals as goal

pub fill-filled-requires : goal.fill-filled-requires
fill-filled-requires c =
    let accepting : read_answer c.args.file.now ≡ Ok tt = sym c.check_file-answer.ensures ∙ c.in-Ok.is in
    accepted_clean _ accepting

pub returns-in-Err : goal.returns-in-Err
unfolding read_of fresh_of
returns-in-Err c =
    simp (c.fresh-made.ensures, sym c.check_file-answer.ensures ∙ c.in-Err.is)

pub returns-in-Ok : goal.returns-in-Ok
unfolding read_of
returns-in-Ok c =
    let accepting : read_answer c.args.file.now ≡ Ok tt = sym c.check_file-answer.ensures ∙ c.in-Ok.is in
    simp (accepting, c.fill-filled.ensures)
