-- `table_totals::reduce` meets its contract. The loop's invariant: no denominator passed makes S × q a multiple of K; K itself does. Assumes nothing.
use native.Mathlib.Omega.{arith}
use Rattle.table_totals.proofs.FractionLaws.{passed_more, reduced}
use Rattle.table_totals.proofs.reduce.Goals as goal

pub loop-denominator-smaller : goal.loop-denominator-smaller
loop-denominator-smaller c = let p = passed_more c.requires c.loop-denominator.invariant c.loop-denominator-test.true in omega (arith, p.most)

pub loop-denominator-preserved : goal.loop-denominator-preserved
loop-denominator-preserved c = passed_more c.requires c.loop-denominator.invariant c.loop-denominator-test.true

pub returns : goal.returns
returns c =
    let i = c.loop-denominator.invariant in
    reduced _ _ _ c.requires.some i.least c.loop-denominator-test.false i.none
