-- `console::mark` meets its contract. Assumes nothing.
use mathlib.Core.Path.{◌∙◌}
use Rattle.unit.specs.Calls.{mark_of}
use Rattle.session.proofs.SessionLaws.{by_three}
use Rattle.console.proofs.SessionLaws.{edited_as}
use Rattle.console.proofs.mark.Goals as goal

pub returns : goal.returns
returns c =
    let s = c.args.session in
    edited_as s (c.mark-made.ensures ∙ by_three (mark_of s.unit) c.byte.ensures c.byte-2.ensures c.byte-3.ensures)
    c.take_unit.ensures
