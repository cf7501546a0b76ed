-- `drawing::tables::put_lines` meets its contract. Assumes nothing.
use mathlib.Core.Path.{refl}
use native.Mathlib.Nat.{mul-add}
use native.Mathlib.Omega.{arith}
use Rattle.text.proofs.BoundedLaws.{put_more, put_as}
use Rattle.drawing.specs.Inner.{line_length}
use Rattle.drawing.proofs.tables.put_lines.Goals as goal

pub returns : goal.returns
returns c =
    let a = c.args in
    put_as (put_more c.put_head-after_head.ensures c.put_rows.ensures) refl (omega (arith, mul-add (line_length a.columns) a.segments 1))
