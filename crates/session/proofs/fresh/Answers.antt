-- `session::fresh` meets its contract. Assumes nothing.
use mathlib.Core.Path.{◌∙◌}
use Rattle.unit.specs.Calls.{fresh_of}
use Rattle.session.proofs.SessionLaws.{by_three, made_as}
use Rattle.session.proofs.fresh.Goals as goal

pub returns : goal.returns
returns c =
    made_as (c.fresh-made.ensures ∙ by_three fresh_of c.byte.ensures c.byte-2.ensures c.byte-3.ensures) c.take_unit.ensures
