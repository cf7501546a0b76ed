-- `command::scan::with_word` meets its contract. Assumes nothing.
use mathlib.Core.Path.{◌∙◌, sym}
use Rattle.command.proofs.NumberLaws.{number_told_lem, other_told}
use Rattle.command.proofs.ScanLaws.{noted_number, noted_other}
use Rattle.command.proofs.scan.with_word.Goals as goal

pub returns-in-Some : goal.returns-in-Some
returns-in-Some c =
    let t = number_told_lem _ _ (sym c.in-Some.is ∙ c.number_of-numeral.ensures) in
    c.note.ensures ∙ noted_number c.args.words _ _ t.0 t.1

pub returns-in-None : goal.returns-in-None
returns-in-None c =
    let t = other_told _ (sym c.in-None.is ∙ c.number_of-numeral.ensures) in
    c.note-in-None.ensures ∙ noted_other c.args.words _ t.0 t.1
