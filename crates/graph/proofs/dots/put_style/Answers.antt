-- `graph::dots::put_style` meets its contract. Assumes nothing.
use mathlib.Core.Path.{sym, ap}
use native.Mathlib.Omega.{arith}
use Rattle.text.proofs.BoundedLaws.{put_one, put_as}
use Rattle.graph.specs.Dot.{style_text}
use Rattle.graph.proofs.dots.put_style.Goals as goal

pub returns-then-bold : goal.returns-then-bold
returns-then-bold c = put_as (put_one 12 _ (c.put.ensures.value, c.put.ensures.out_after) (omega arith) (omega arith)) (ap style_text (sym c.if-bold.true)) (omega arith)
