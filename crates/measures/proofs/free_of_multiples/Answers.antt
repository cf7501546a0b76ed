use Rattle.std.proofs.Common.{sym, ◌∙◌, arith}
use Rattle.measures.proofs.NumberLaws.{free_more, free_found, free_end}
use Rattle.measures.proofs.free_of_multiples.Goals as goal

pub returns-then-test : goal.returns-then-test
returns-then-test c =
    sym (free_found _ _ c.loop-multiple.multiple c.loop-multiple.invariant (omega arith) (sym c.test.ensures ∙ c.if-test.true))

pub loop-multiple-preserved : goal.loop-multiple-preserved
loop-multiple-preserved c = free_more _ _ _ c.requires.0 c.loop-multiple.invariant (sym c.test.ensures ∙ c.if-test.false)

pub returns : goal.returns
returns c = sym (free_end _ _ c.loop-multiple.multiple c.loop-multiple.invariant (omega arith))

-- the next multiple is above the last column
pub returns-else-test : goal.returns-else-test
returns-else-test c =
    let more = free_more _ _ _ c.requires.0 c.loop-multiple.invariant (sym c.test.ensures ∙ c.if-test.false) in
    sym (free_end _ _ _ more (omega arith))
