-- `columns::check_column` meets its contract: the unit and the tag first, then the word's segments and the column. Assumes nothing.
use Rattle.std.proofs.Common.{Ok}
use mathlib.Core.Path.{◌≡◌, sym, ◌∙◌}
use Prim.Native.Nat.{◌*◌, ◌%◌, ◌^◌, ◌<◌, ◌≤◌}
use native.Mathlib.Omega.{arith}
use borrow.Author.Tests.{lt-ltb, le-ltb}
use Rattle.words.proofs.Tests.{on, off}
use Rattle.words.proofs.BitLaws.{shifted_one}
use Rattle.unit.specs.Calls.{tag_answer, column_answer}
use Rattle.unit.proofs.Laws.{Within, tag_segments}
use Rattle.unit.proofs.Exits.{handed_on}
use Rattle.columns.proofs.check_column.Goals as goal

pub overflow_shl-top : goal.overflow_shl-top
overflow_shl-top c =
    let passed : tag_answer c.args.u c.args.tag.0 ≡ Ok tt = sym c.check_tag.ensures ∙ c.in_ok-check_tag.was in
    let few : Within c.args.u.segments 16 = let a = c.args in tag_segments a.u a.tag.0 passed in
    omega (arith, few.most)

pub returns-then-top-word : goal.returns-then-top-word
unfolding column_answer
returns-then-top-word c =
    let passed : tag_answer c.args.u c.args.tag.0 ≡ Ok tt = sym c.check_tag.ensures ∙ c.in_ok-check_tag.was in
    let few : Within c.args.u.segments 16 = let a = c.args in tag_segments a.u a.tag.0 passed in
    let a = c.args in
    let t = shifted_one a.u.segments 32 (omega (arith, few.most)) in
    let p : (1 * 2 ^ a.u.segments) % 2 ^ 32 ≤ a.word = c.if-top-word.true in
    simp (passed, le-ltb a.word (2 ^ a.u.segments) (omega arith))

pub returns-then-not-is_inside : goal.returns-then-not-is_inside
unfolding column_answer
returns-then-not-is_inside c =
    let passed : tag_answer c.args.u c.args.tag.0 ≡ Ok tt = sym c.check_tag.ensures ∙ c.in_ok-check_tag.was in
    let few : Within c.args.u.segments 16 = let a = c.args in tag_segments a.u a.tag.0 passed in
    let short : c.args.word < 2 ^ c.args.u.segments = let a = c.args in
    let t = shifted_one a.u.segments 32 (omega (arith, few.most)) in
    let p : a.word < (1 * 2 ^ a.u.segments) % 2 ^ 32 = c.if-top-word.false in
    omega arith in
    let c = c in
    let a = c.args in
    simp (passed, lt-ltb a.word (2 ^ a.u.segments) short, off c.if-not-is_inside.true-raw c.is_inside.ensures)

pub returns-in_err-check_tag : goal.returns-in_err-check_tag
unfolding column_answer
returns-in_err-check_tag c = handed_on c.from_residual.ensures.1 (simp (sym c.check_tag.ensures ∙ c.in_err-check_tag.was))

pub returns : goal.returns
unfolding column_answer
returns c =
    let passed : tag_answer c.args.u c.args.tag.0 ≡ Ok tt = sym c.check_tag.ensures ∙ c.in_ok-check_tag.was in
    let few : Within c.args.u.segments 16 = let a = c.args in tag_segments a.u a.tag.0 passed in
    let short : c.args.word < 2 ^ c.args.u.segments = let a = c.args in
    let t = shifted_one a.u.segments 32 (omega (arith, few.most)) in
    let p : a.word < (1 * 2 ^ a.u.segments) % 2 ^ 32 = c.if-top-word.false in
    omega arith in
    let c = c in
    let a = c.args in
    simp (passed, lt-ltb a.word (2 ^ a.u.segments) short, on c.if-not-is_inside.false-raw c.is_inside.ensures)
