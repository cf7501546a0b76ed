-- `text::put_number` meets its contract. Assumes nothing.
use native.Mathlib.Omega.{arith}
use Rattle.text.specs.Text.{decimal}
use Rattle.text.proofs.PutLaws.{put_left_out}
use Rattle.text.proofs.WroteLaws.{wrote_is_put}
use Rattle.text.proofs.put_number.Goals as goal

pub returns-then-out-count : goal.returns-then-out-count
returns-then-out-count c =
    let a = c.args in
    let facts = put_left_out a.out.now a.at (decimal a.number) (omega arith) in
    record { value = facts.0; out_after = facts.1 }

pub returns-then-out-count-2 : goal.returns-then-out-count-2
returns-then-out-count-2 c =
    let a = c.args in
    let facts = put_left_out a.out.now a.at (decimal a.number) (omega arith) in
    record { value = facts.0; out_after = facts.1 }

pub returns : goal.returns
returns c =
    let facts = wrote_is_put record { bytes = c.put_digits.ensures.out_after; next = c.put_digits.ensures.value; room = omega arith } in
    record { value = facts.0; out_after = facts.1 }
