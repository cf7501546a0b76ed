-- `graph::dots::Drawing::put_arcs` meets its contract. Assumes nothing.
use mathlib.Core.Path.{◌≡◌, ap, ◌∙◌}
use Prim.Native.Nat.{◌+◌}
use native.Mathlib.Omega.{arith}
use Rattle.words.specs.Below.{join_below}
use Rattle.text.proofs.BoundedLaws.{put_as, put_join_start, put_join_more}
use Rattle.graph.specs.Inner.{permitted_text}
use Rattle.graph.proofs.DotLaws.{arcs_all}
use Rattle.graph.proofs.dots.Drawing.put_arcs.Goals as goal

pub loop-index-init : goal.loop-index-init
loop-index-init c =
    let a = c.args in
    put_join_start 107 (permitted_text a.self.now.columns a.self.now.vector a.self.now.cycle.now a.state) (omega (arith, c.requires.1))

pub loop-index-preserved : goal.loop-index-preserved
loop-index-preserved c =
    let a = c.args in
    put_join_more 107 c.loop-index.index (permitted_text a.self.now.columns a.self.now.vector a.self.now.cycle.now a.state) c.loop-index.invariant c.put_permitted-end.ensures

pub returns-2 : goal.returns-2
returns-2 c =
    let a = c.args in
    let f = permitted_text a.self.now.columns a.self.now.vector a.self.now.cycle.now a.state in
    let e : c.loop-index.index ≡ a.self.now.columns = omega arith in
    put_as (put_join_more 107 c.loop-index.index f c.loop-index.invariant c.put_permitted-end.ensures)
    (ap (λ n. join_below (n + 1) f) e ∙ arcs_all a.self.now.columns a.self.now.vector a.self.now.cycle.now a.state)
    (omega (arith, c.args.self.now.narrow))
