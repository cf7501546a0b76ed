-- `collision::row_of_tags` meets its contract. Assumes nothing.
use mathlib.Core.Path.{ap₂, ◌∙◌}
use Rattle.collision.specs.Vector.{row_of_columns}
use Rattle.collision.proofs.RowLaws.{row_columns}
use Rattle.collision.proofs.row_of_tags.Goals as goal

pub returns : goal.returns
returns c = c.row_of.ensures ∙ ap₂ row_of_columns c.columns_of-later_columns.ensures c.columns_of-earlier_columns.ensures ∙ row_columns _ _ _
