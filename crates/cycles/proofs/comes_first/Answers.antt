-- `cycles::comes_first` meets its contract: so far the rotations agree, and what is left of them decides. Assumes nothing.
use Rattle.cycles.proofs.OrderLaws.{compare_less, compare_more, compare_on}
use Rattle.cycles.proofs.comes_first.Goals as goal

pub returns-then-a-b : goal.returns-then-a-b
returns-then-a-b c =
    compare_less _ _ _ _ c.loop-i.invariant c.loop-i-test.true c.requires.0 c.requires.1 c.if-a-b.true

pub returns-then-b-a : goal.returns-then-b-a
returns-then-b-a c =
    compare_more _ _ _ _ c.loop-i.invariant c.loop-i-test.true c.requires.0 c.requires.1 c.if-b-a.true

pub loop-i-preserved : goal.loop-i-preserved
loop-i-preserved c = compare_on _ _ _ _ c.loop-i.invariant c.loop-i-test.true c.requires.0 c.requires.1 c.if-b-a.false c.if-a-b.false
