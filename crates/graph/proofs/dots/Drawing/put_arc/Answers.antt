-- `graph::dots::Drawing::put_arc` meets its contract. Assumes nothing.
use mathlib.Core.List.{◌++◌}
use native.Mathlib.Omega.{arith}
use Rattle.text.specs.Text.{ascii}
use Rattle.text.specs.Wrote.{Put}
use Rattle.text.proofs.BoundedLaws.{put_one, put_more, put_word, put_as, put_room}
use Rattle.graph.specs.Dot.{state_text}
use Rattle.graph.proofs.DotLaws.{arc_parts}
use Rattle.graph.proofs.dots.Drawing.put_arc.Goals as goal

pub put_state-after_state-requires : goal.put_state-after_state-requires
put_state-after_state-requires c =
    put_room 34 (put_one 2 _ (c.put-after_indent.ensures.value, c.put-after_indent.ensures.out_after) (omega arith) (omega (arith, c.requires))) (omega (arith, c.requires))

pub put_state-after_next-requires : goal.put_state-after_next-requires
put_state-after_next-requires c =
    let arrow-put : (let a = c.args in Put 40 a.out.now a.at (ascii "  " ++ state_text a.self.now.columns a.state ++ ascii " -> ") c.put-after_arrow.new.out c.put-after_arrow.result) = let room = c.requires in
    let p = put_one 2 _ (c.put-after_indent.ensures.value, c.put-after_indent.ensures.out_after) (omega arith) (omega (arith, room)) in
    put_word 4 _ (put_more p c.put_state-after_state.ensures) (c.put-after_arrow.ensures.value, c.put-after_arrow.ensures.out_after) (omega arith) (omega (arith, room)) in
    put_room 34 arrow-put (omega (arith, c.requires))

pub put_label-requires : goal.put_label-requires
put_label-requires c =
    let arrow-put : (let a = c.args in Put 40 a.out.now a.at (ascii "  " ++ state_text a.self.now.columns a.state ++ ascii " -> ") c.put-after_arrow.new.out c.put-after_arrow.result) = let room = c.requires in
    let p = put_one 2 _ (c.put-after_indent.ensures.value, c.put-after_indent.ensures.out_after) (omega arith) (omega (arith, room)) in
    put_word 4 _ (put_more p c.put_state-after_state.ensures) (c.put-after_arrow.ensures.value, c.put-after_arrow.ensures.out_after) (omega arith) (omega (arith, room)) in
    let next-put : (let a = c.args in Put 74 a.out.now a.at (ascii "  " ++ state_text a.self.now.columns a.state ++ ascii " -> " ++ state_text a.self.now.columns c.next_of.result) c.put_state-after_next.new.out c.put_state-after_next.result) = put_more arrow-put c.put_state-after_next.ensures in
    put_room 33 next-put (omega (arith, c.requires))

pub returns : goal.returns
returns c =
    let arrow-put : (let a = c.args in Put 40 a.out.now a.at (ascii "  " ++ state_text a.self.now.columns a.state ++ ascii " -> ") c.put-after_arrow.new.out c.put-after_arrow.result) = let room = c.requires in
    let p = put_one 2 _ (c.put-after_indent.ensures.value, c.put-after_indent.ensures.out_after) (omega arith) (omega (arith, room)) in
    put_word 4 _ (put_more p c.put_state-after_state.ensures) (c.put-after_arrow.ensures.value, c.put-after_arrow.ensures.out_after) (omega arith) (omega (arith, room)) in
    let next-put : (let a = c.args in Put 74 a.out.now a.at (ascii "  " ++ state_text a.self.now.columns a.state ++ ascii " -> " ++ state_text a.self.now.columns c.next_of.result) c.put_state-after_next.new.out c.put_state-after_next.result) = put_more arrow-put c.put_state-after_next.ensures in
    let a = c.args in
    let whole = put_more next-put c.put_label.ensures in
    let same = arc_parts a.self.now.vector a.self.now.cycle.now a.self.now.columns a.state a.latency c.next_of.ensures c.is_on_cycle.ensures in
    put_as whole same (omega arith)
