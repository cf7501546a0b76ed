-- `command::scan::byte_of` meets its contract. Assumes nothing.
use mathlib.Core.Path.{◌∙◌, sym, ap}
use Rattle.words.specs.Bytes.{narrow}
use Rattle.command.proofs.NumberLaws.{number_told_lem, other_told}
use Rattle.command.proofs.scan.byte_of.Goals as goal

pub returns-in_default : goal.returns-in_default
returns-in_default c = ap narrow (other_told _ (sym c.in_default.is ∙ c.number_of.ensures)).1

pub returns : goal.returns
returns c = c.byte.ensures ∙ ap narrow (number_told_lem _ _ (sym c.in-Some.is ∙ c.number_of.ensures)).1
