-- `record_text::write_ring` meets its contract. Assumes nothing.
use native.Mathlib.Omega.{arith}
use Rattle.text.proofs.DecimalLaws.{decimal_length}
use Rattle.text.proofs.BoundedLaws.{put_one, put_word, put_more, put_room}
use Rattle.record_text.proofs.LineLaws.{bits_length}
use Rattle.record_text.proofs.write_ring.Goals as goal

pub write_bits-after_bits-requires : goal.write_bits-after_bits-requires
write_bits-after_bits-requires c =
    let p₁ = put_one 4 _ (c.put-after_word.ensures.value, c.put-after_word.ensures.out_after) (omega arith) (omega (arith, c.requires.2)) in
    let p₂ = put_word 10 _ p₁ (c.put_number-after_sum.ensures.value, c.put_number-after_sum.ensures.out_after) (decimal_length c.args.sum 10 (omega (arith, c.requires.0)) (omega arith)) (omega (arith, c.requires.2)) in
    let p₃ = put_word 6 _ p₂ (c.put-after_name.ensures.value, c.put-after_name.ensures.out_after) (omega arith) (omega (arith, c.requires.2)) in
    (c.requires.1, omega (arith, put_room 8192 p₃ (omega (arith, c.requires.2)), c.requires.0))

pub returns : goal.returns
returns c =
    let p₁ = put_one 4 _ (c.put-after_word.ensures.value, c.put-after_word.ensures.out_after) (omega arith) (omega (arith, c.requires.2)) in
    let p₂ = put_word 10 _ p₁ (c.put_number-after_sum.ensures.value, c.put_number-after_sum.ensures.out_after) (decimal_length c.args.sum 10 (omega (arith, c.requires.0)) (omega arith)) (omega (arith, c.requires.2)) in
    let p₃ = put_word 6 _ p₂ (c.put-after_name.ensures.value, c.put-after_name.ensures.out_after) (omega arith) (omega (arith, c.requires.2)) in
    let p₄ = put_more {n = 8192} p₃ (record { wrote = c.write_bits-after_bits.ensures; few = omega (arith, c.write_bits-after_bits.ensures.next, bits_length c.args.sum c.args.ring.now, c.requires.0) }) in
    let p₅ = put_word 1 _ p₄ (c.put.ensures.value, c.put.ensures.out_after) (omega arith) (omega (arith, c.requires.2)) in
    p₅.wrote
