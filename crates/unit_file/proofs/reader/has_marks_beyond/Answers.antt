-- `unit_file::reader::has_marks_beyond` meets its contract. The loop's invariant: no word passed has a bit beyond the columns. Assumes nothing.
use Prim.Native.Nat.{◌*◌, ◌^◌, ◌%◌}
use mathlib.Core.Path.{◌≡◌, sym}
use native.Mathlib.Omega.{arith}
use Rattle.words.proofs.BitLaws.{shifted_one}
use Rattle.unit_file.specs.Read.{columns_in}
use Rattle.unit_file.proofs.ReadLaws.{beyond_found, beyond_none}
use Rattle.unit_file.proofs.reader.has_marks_beyond.Goals as goal

pub returns-then-top-word : goal.returns-then-top-word
returns-then-top-word c =
    let top-is : (let n = columns_in c.args.file.now in (1 * 2 ^ n) % 2 ^ 64 ≡ 2 ^ n) = shifted_one (columns_in c.args.file.now) 64 (omega (arith, c.requires.counts.columns32)) in
    let c = c in
    let t = top-is in
    sym (beyond_found c.args.file.now c.requires.counts c.loop-i.i c.loop-i-test.true (omega (arith, c.word_at-word.type_inv)) (omega (arith, c.if-top-word.true)))

pub returns : goal.returns
returns c =
    let top-is : (let n = columns_in c.args.file.now in (1 * 2 ^ n) % 2 ^ 64 ≡ 2 ^ n) = shifted_one (columns_in c.args.file.now) 64 (omega (arith, c.requires.counts.columns32)) in
    let c = c in
    let t = top-is in
    sym (beyond_none c.args.file.now c.requires.counts (λ i l. omega (arith, c.loop-i.invariant i (omega arith))))
