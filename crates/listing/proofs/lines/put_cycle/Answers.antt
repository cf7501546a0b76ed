-- `listing::lines::put_cycle` meets its contract. Assumes nothing.
use mathlib.Core.List.{◌++◌}
use Prim.Native.Nat.{◌+◌, ◌*◌, ◌≤◌}
use native.Mathlib.Omega.{arith}
use lib.ListN.{length}
use Rattle.text.specs.Text.{ascii, decimal, spaced}
use Rattle.text.proofs.RowLaws.{spaced_most}
use Rattle.text.proofs.WroteLaws.{wrote_length}
use Rattle.listing.specs.Lines.{newline}
use Rattle.text.specs.Wrote.{Put}
use Rattle.text.proofs.BoundedLaws.{put_more, put_word, put_as, put_one}
use Rattle.listing.proofs.LineLaws.{append_line}
use Rattle.listing.proofs.lines.put_cycle.Goals as goal

pub put_line-requires : goal.put_line-requires
put_line-requires c =
    let word-put : (let a = c.args in Put (length a.word.now) a.out.now a.at a.word.now c.put-after_word.new.out c.put-after_word.result) = let a = c.args in
    put_one (length a.word.now) a.word.now (c.put-after_word.ensures.value, c.put-after_word.ensures.out_after) (omega arith) (omega arith) in
    let cycle-put : (let a = c.args in Put (length a.word.now + 4 * length a.cycle.now) a.out.now a.at (a.word.now ++ spaced a.cycle.now) c.put_bytes-after_cycle.new.out c.put_bytes-after_cycle.result) = let a = c.args in
    let few : length (spaced a.cycle.now) ≤ 4 * length a.cycle.now =
    spaced_most a.cycle.now 3 (omega arith) (λ i l. omega (arith, c.shared_slice_known-2-1.given i))
    in
    put_word (4 * length a.cycle.now) (spaced a.cycle.now) word-put (c.put_bytes-after_cycle.ensures.value, c.put_bytes-after_cycle.ensures.out_after) few (omega arith) in
    let p = cycle-put in omega (arith, wrote_length p.wrote)

pub returns : goal.returns
returns c =
    let word-put : (let a = c.args in Put (length a.word.now) a.out.now a.at a.word.now c.put-after_word.new.out c.put-after_word.result) = let a = c.args in
    put_one (length a.word.now) a.word.now (c.put-after_word.ensures.value, c.put-after_word.ensures.out_after) (omega arith) (omega arith) in
    let cycle-put : (let a = c.args in Put (length a.word.now + 4 * length a.cycle.now) a.out.now a.at (a.word.now ++ spaced a.cycle.now) c.put_bytes-after_cycle.new.out c.put_bytes-after_cycle.result) = let a = c.args in
    let few : length (spaced a.cycle.now) ≤ 4 * length a.cycle.now =
    spaced_most a.cycle.now 3 (omega arith) (λ i l. omega (arith, c.shared_slice_known-2-1.given i))
    in
    put_word (4 * length a.cycle.now) (spaced a.cycle.now) word-put (c.put_bytes-after_cycle.ensures.value, c.put_bytes-after_cycle.ensures.out_after) few (omega arith) in
    let a = c.args in
    let text = a.word.now ++ spaced a.cycle.now in
    let p = put_more cycle-put c.put_line.ensures in
    put_as p (append_line text (ascii " sum ") (decimal a.sum) newline) (omega arith)
