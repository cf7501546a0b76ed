-- `questions::lines::matrix_width` meets its contract. The loop's invariant: the greatest width of the rows passed is kept. Assumes nothing.
use mathlib.Core.Path.{◌≡◌}
use Rattle.words.specs.Below.{max_below}
use Rattle.unit.specs.Unit.{marked}
use Rattle.questions.proofs.WidthLaws.{row_width}
use Rattle.questions.proofs.lines.matrix_width.Given as goal

abbrev pub invariant-loop-tag : goal.invariant-loop-tag
invariant-loop-tag l = l.widest ≡ max_below l.tag (row_width (marked l.u) l.r.0)
