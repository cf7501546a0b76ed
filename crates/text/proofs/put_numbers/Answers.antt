-- `text::put_numbers` meets its contract. Assumes nothing.
use mathlib.Core.Path.{sym, ◌∙◌}
use Rattle.std.proofs.Common.{◌-◌, map}
use native.Mathlib.Omega.{arith}
use borrow.Author.Tests.{leb-true, leb-false}
use lib.ListN.{length}
use Rattle.text.specs.Text.{spaced}
use Rattle.text.proofs.PutLaws.{put_left_out}
use Rattle.text.proofs.WroteLaws.{wrote_is_put}
use Rattle.text.proofs.put_numbers.Goals as goal

pub returns-then-out-at : goal.returns-then-out-at
returns-then-out-at g c =
    let a = c.args in
    let facts = put_left_out a.out.now a.at (spaced (map g.T.Number.number a.numbers.now)) (omega arith) in
    record { value = facts.0; out_after = facts.1 }

pub write_numbers-requires : goal.write_numbers-requires
write_numbers-requires g c =
    let a = c.args in
    let fits = sym c.numbers_fit.ensures ∙ c.if-numbers_fit.true in
    omega (arith, leb-true (length (spaced (map g.T.Number.number a.numbers.now))) (length a.out.now - a.at) fits)

pub returns-then-numbers_fit : goal.returns-then-numbers_fit
returns-then-numbers_fit g c =
    let facts = wrote_is_put c.write_numbers.ensures in
    record { value = facts.0; out_after = facts.1 }

pub returns : goal.returns
returns g c =
    let a = c.args in
    let short = sym c.numbers_fit.ensures ∙ c.if-numbers_fit.false in
    let over = leb-false (length (spaced (map g.T.Number.number a.numbers.now))) (length a.out.now - a.at) short in
    let facts = put_left_out a.out.now a.at (spaced (map g.T.Number.number a.numbers.now)) (omega arith) in
    record { value = facts.0; out_after = facts.1 }
