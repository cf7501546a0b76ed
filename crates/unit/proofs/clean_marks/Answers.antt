-- `unit::clean_marks` meets its contract: the joined words are tested in turn. Assumes nothing.
use Prim.Native.Nat.{◌*◌, ◌%◌, ◌^◌, ◌≤◌, ◌<◌}
use native.Mathlib.Omega.{arith}
use Rattle.words.proofs.BitLaws.{shifted_one}
use Rattle.unit.proofs.JoinLaws.{segments_clean, functions_clean, refused, tested}
use borrow.Author.Rules.{rules}
use Rattle.unit.proofs.clean_marks.Goals as goal

pub returns-then-top-all : goal.returns-then-top-all
returns-then-top-all c =
    let a = c.args in
    let p : (1 * 2 ^ a.segments) % 2 ^ 32 ≤ c.joined_from-all.result = c.if-top-all.true in
    let t = shifted_one a.segments 32 (omega arith) in
    refused a.functions a.segments a.columns a.marks c.joined_from-all.result c.joined_from-all.ensures (search rules)
    (λ d. omega (arith, segments_clean a.functions a.segments a.columns a.marks c.joined_from-all.result c.joined_from-all.ensures d))

pub returns-then-absent-ne0 : goal.returns-then-absent-ne0
returns-then-absent-ne0 c =
    let a = c.args in
    refused a.functions a.segments a.columns a.marks c.joined_from-all.result c.joined_from-all.ensures (search rules)
    (λ d. c.if-absent-ne0.true (omega (arith, functions_clean a.functions a.segments a.columns a.marks c.joined_from-absent.result c.joined_from-absent.ensures d)))

pub returns : goal.returns
returns c =
    let a = c.args in
    let p : c.joined_from-all.result < (1 * 2 ^ a.segments) % 2 ^ 32 = c.if-top-all.false in
    let t = shifted_one a.segments 32 (omega arith) in
    tested a.functions a.segments a.columns a.marks c.joined_from-all.result c.joined_from-absent.result c.joined_beyond-beyond.result c.joined_from-all.ensures (search rules) (omega arith)
    c.joined_from-absent.ensures c.if-absent-ne0.false c.joined_beyond-beyond.ensures
