-- `graph::dots::Drawing::put_state` meets its contract. Assumes nothing.
use mathlib.Core.Path.{refl}
use native.Mathlib.Omega.{arith}
use Rattle.text.proofs.BoundedLaws.{put_one, put_word, put_as}
use Rattle.graph.proofs.DotLaws.{vector_few}
use Rattle.graph.proofs.dots.Drawing.put_state.Goals as goal

pub returns : goal.returns
returns c =
    let a = c.args in
    let p = put_one 1 _ (c.put-after_quote.ensures.value, c.put-after_quote.ensures.out_after) (omega arith) (omega arith) in
    let q = put_word 32 _ p (c.put_columns-after_state.ensures.value, c.put_columns-after_state.ensures.out_after) (vector_few a.self.now.columns a.state (omega arith)) (omega arith) in
    put_as (put_word 1 _ q (c.put.ensures.value, c.put.ensures.out_after) (omega arith) (omega arith)) refl (omega arith)
