-- `console::unmark` meets its contract. Assumes nothing.
use mathlib.Core.Path.{◌∙◌}
use Rattle.unit.specs.Calls.{unmark_of}
use Rattle.session.proofs.SessionLaws.{by_three}
use Rattle.console.proofs.SessionLaws.{edited_as}
use Rattle.console.proofs.unmark.Goals as goal

pub returns : goal.returns
returns c =
    let s = c.args.session in
    edited_as s (c.unmark-made.ensures ∙ by_three (unmark_of s.unit) c.byte.ensures c.byte-2.ensures c.byte-3.ensures)
    c.take_unit.ensures
