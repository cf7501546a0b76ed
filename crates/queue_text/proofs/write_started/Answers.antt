-- `queue_text::write_started` meets its contract. Assumes nothing.
use native.Mathlib.Omega.{arith}
use Rattle.text.proofs.DecimalLaws.{decimal_length}
use Rattle.text.proofs.BoundedLaws.{put_word, put_one}
use Rattle.queue_text.proofs.write_started.Goals as goal

pub returns : goal.returns
returns c =
    let p₁ = put_one 8 _ (c.put-after_word.ensures.value, c.put-after_word.ensures.out_after) (omega arith) (omega (arith, c.requires)) in
    let p₂ = put_word 10 _ p₁ (c.put_number-after_tag.ensures.value, c.put_number-after_tag.ensures.out_after) (decimal_length c.args.started.tag 10 (omega arith) (omega arith)) (omega (arith, c.requires)) in
    let p₃ = put_word 1 _ p₂ (c.put-after_space.ensures.value, c.put-after_space.ensures.out_after) (omega arith) (omega (arith, c.requires)) in
    let p₄ = put_word 10 _ p₃ (c.put_number-after_ticket.ensures.value, c.put_number-after_ticket.ensures.out_after) (decimal_length c.args.started.ticket 10 (omega arith) (omega arith)) (omega (arith, c.requires)) in
    let p₅ = put_word 1 _ p₄ (c.put.ensures.value, c.put.ensures.out_after) (omega arith) (omega (arith, c.requires)) in
    p₅.wrote
