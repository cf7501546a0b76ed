-- `questions::lines::row_width` meets its contract. Assumes nothing.
use mathlib.Core.Path.{ap, ap₂, ◌∙◌}
use Rattle.collision.specs.Vector.{row_of_columns}
use Rattle.collision.proofs.RowLaws.{row_columns}
use Rattle.diagram.specs.Diagram.{width}
use Rattle.questions.proofs.lines.row_width.Goals as goal

pub returns : goal.returns
returns c =
    c.width_of.ensures ∙ ap width (c.row_of-row.ensures ∙ ap₂ row_of_columns c.columns_of-later.ensures c.columns_of-earlier.ensures ∙ row_columns _ _ _)
