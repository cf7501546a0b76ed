-- `columns::columns_of` meets its contract. Assumes nothing.
use Rattle.std.proofs.Common.{◌≡◌, ◌∙◌, ◌+◌, ◌-◌, ◌*◌, length, sym, rules, arith}
use Rattle.std.proofs.lemmas.Grind.{common_steps}
use Rattle.unit.specs.Unit.{columns_of}
use Rattle.unit.proofs.Laws.{within}
use Rattle.columns.proofs.CopyLaws.{Copied, copied_more, copied_all}
use Rattle.columns.proofs.columns_of.Goals as goal

pub returns-then-not-is_inside : goal.returns-then-not-is_inside
unfolding columns_of
returns-then-not-is_inside c = grind (arith, common_steps)

pub overflow_sub-first : goal.overflow_sub-first
overflow_sub-first c = omega (arith, (within c.args.tag.0 4 (sym c.is_inside.ensures ∙ c.if-not-is_inside.false)).least)

pub loop-i-preserved : goal.loop-i-preserved
loop-i-preserved c =
    (search rules, copied_more c.loop-i.columns c.args.u.marks ((c.args.tag.0 - 1) * 32) c.loop-i.i (omega (arith, c.loop-i.invariant.0)) c.loop-i.invariant.1)

pub returns : goal.returns
unfolding columns_of
returns c =
    let a = c.args in
    let n : length a.u.marks ≡ 128 = search rules in
    let w = within a.tag.0 4 (sym c.is_inside.ensures ∙ c.if-not-is_inside.false) in
    let e : c.loop-i.i ≡ 32 = omega arith in
    let f : Copied c.loop-i.columns a.u.marks ((a.tag.0 - 1) * 32) 32 = rw e at c.loop-i.invariant.1 in
    simp (sym c.is_inside.ensures ∙ c.if-not-is_inside.false) (copied_all c.loop-i.columns a.u.marks ((a.tag.0 - 1) * 32) c.loop-i.invariant.0 (omega arith) f)
