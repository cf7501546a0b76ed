-- `graph::dots::put_diagram` meets its contract. Assumes nothing.
use mathlib.Core.List.{◌++◌}
use Prim.Native.Nat.{◌*◌}
use native.Mathlib.Omega.{arith}
use lib.ListN.{length}
use Rattle.text.specs.Text.{ascii, decimal}
use Rattle.text.proofs.DecimalLaws.{decimal_length}
use Rattle.text.specs.Wrote.{Put}
use Rattle.text.proofs.BoundedLaws.{put_one, put_more, put_word, put_as, put_room}
use Rattle.graph.specs.Inner.{states_text}
use Rattle.graph.proofs.DotLaws.{listing_small, dot_parts}
use Rattle.graph.proofs.dots.put_diagram.Goals as goal

pub put_states-after_states-requires : goal.put_states-after_states-requires
put_states-after_states-requires c =
    let head-put : (let a = c.args in Put 30 a.out.now 0 (ascii "digraph function_" ++ decimal a.tag ++ ascii " {\n") c.put-after_head.new.out c.put-after_head.result) = let p = put_one 17 _ (c.put-after_word.ensures.value, c.put-after_word.ensures.out_after) (omega arith) (omega (arith, c.requires.2)) in
    let d = decimal_length c.args.tag 10 (omega arith) (omega arith) in
    put_word 3 _ (put_word 10 _ p (c.put_number-after_tag.ensures.value, c.put_number-after_tag.ensures.out_after) d (omega (arith, c.requires.2))) (c.put-after_head.ensures.value, c.put-after_head.ensures.out_after) (omega arith) (omega (arith, c.requires.2)) in (
      listing_small c.requires.0 c.new-drawing.ensures.0,
      put_room (3531 * length c.args.states.now) head-put (omega (arith, c.requires.0.few, c.requires.2)),
    )

pub returns : goal.returns
returns c =
    let head-put : (let a = c.args in Put 30 a.out.now 0 (ascii "digraph function_" ++ decimal a.tag ++ ascii " {\n") c.put-after_head.new.out c.put-after_head.result) = let p = put_one 17 _ (c.put-after_word.ensures.value, c.put-after_word.ensures.out_after) (omega arith) (omega (arith, c.requires.2)) in
    let d = decimal_length c.args.tag 10 (omega arith) (omega arith) in
    put_word 3 _ (put_word 10 _ p (c.put_number-after_tag.ensures.value, c.put_number-after_tag.ensures.out_after) d (omega (arith, c.requires.2))) (c.put-after_head.ensures.value, c.put-after_head.ensures.out_after) (omega arith) (omega (arith, c.requires.2)) in
    let a = c.args in
    let whole = put_more {b = states_text c.new-drawing.result.columns c.new-drawing.result.vector c.new-drawing.result.cycle.now a.states.now} head-put c.put_states-after_states.ensures in
    let q = put_word 2 _ whole (c.put.ensures.value, c.put.ensures.out_after) (omega arith) (omega (arith, c.requires.0.few, c.requires.2)) in
    put_as q (let is = c.new-drawing.ensures in dot_parts a.tag a.states.now is.0 is.1 is.2) (omega (arith, c.requires.0.few))
