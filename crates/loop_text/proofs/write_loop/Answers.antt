-- `loop_text::write_loop` meets its contract. Assumes nothing.
use native.Mathlib.Omega.{arith}
use Rattle.text.proofs.DecimalLaws.{decimal_length}
use Rattle.text.proofs.RowLaws.{spaced_most}
use Rattle.text.proofs.BoundedLaws.{put_word, put_one}
use Rattle.loop_text.proofs.write_loop.Goals as goal

pub returns : goal.returns
returns c =
    let p₁ = put_one 10 _ (c.put-after_word.ensures.value, c.put-after_word.ensures.out_after) (omega arith) (omega (arith, c.requires.1)) in
    let most = spaced_most c.args.latencies.now 3 (omega arith) (λ i l. omega (arith, c.shared_slice_known-1.given i)) in
    let p₂ = put_word 1024 _ p₁ (c.put_bytes-after_latencies.ensures.value, c.put_bytes-after_latencies.ensures.out_after) (omega (arith, most, c.requires.0)) (omega (arith, c.requires.1)) in
    let p₃ = put_word 5 _ p₂ (c.put-after_name.ensures.value, c.put-after_name.ensures.out_after) (omega arith) (omega (arith, c.requires.1)) in
    let p₄ = put_word 10 _ p₃ (c.put_number-after_sum.ensures.value, c.put_number-after_sum.ensures.out_after) (decimal_length c.args.sum 10 (omega arith) (omega arith)) (omega (arith, c.requires.1)) in
    let p₅ = put_word 1 _ p₄ (c.put.ensures.value, c.put.ensures.out_after) (omega arith) (omega (arith, c.requires.1)) in
    p₅.wrote
