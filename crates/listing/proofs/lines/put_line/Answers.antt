-- `listing::lines::put_line` meets its contract. Assumes nothing.
use mathlib.Core.Path.{refl}
use Prim.Native.Nat.{◌≤◌}
use native.Mathlib.Omega.{arith}
use lib.ListN.{length}
use Rattle.text.specs.Text.{decimal}
use Rattle.text.proofs.DecimalLaws.{decimal_length}
use Rattle.text.proofs.BoundedLaws.{put_word, put_as, put_one}
use Rattle.listing.proofs.lines.put_line.Goals as goal

pub returns : goal.returns
returns c =
    let a = c.args in
    let d : length (decimal a.number) ≤ 10 = decimal_length a.number 10 (omega arith) (omega arith) in
    let p₁ = put_one (length a.word.now) _ (c.put-after_word.ensures.value, c.put-after_word.ensures.out_after) (omega arith) (omega arith) in
    let p₂ = put_word 10 _ p₁ (c.put_number-after_number.ensures.value, c.put_number-after_number.ensures.out_after) d (omega arith) in
    let p₃ = put_word 1 _ p₂ (c.put.ensures.value, c.put.ensures.out_after) (omega arith) (omega arith) in
    put_as p₃ refl (omega arith)
