-- `controller::row_for` meets its contract. Assumes nothing.
use mathlib.Core.Path.{ap₂, ◌∙◌}
use borrow.Author.Tests.{lt-leb, le-leb}
use Rattle.collision.specs.Vector.{row_of_columns}
use Rattle.collision.proofs.RowLaws.{row_columns}
use Rattle.controller.specs.Bank.{row_for}
use Rattle.controller.proofs.row_for.Goals as goal

pub returns-then-u-r : goal.returns-then-u-r
unfolding row_for
returns-then-u-r c = simp (lt-leb _ _ c.if-u-r.true)

pub returns : goal.returns
unfolding row_for
returns c =
    simp (le-leb _ _ c.if-u-r.false)
    (c.row_of.ensures ∙ ap₂ row_of_columns c.columns_of-later.ensures c.columns_of-earlier.ensures ∙ row_columns _ _ _)
