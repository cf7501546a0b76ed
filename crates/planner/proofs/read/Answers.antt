-- `planner::read` meets its contract: its tests in turn, then the plan. Assumes nothing.
use borrow.Author.Tests.{eq-eqb, ne_eqb}
use Rattle.words.proofs.Tests.{on, off}
use Rattle.planner.specs.Plans.{read_answer, read_of}
use Rattle.planner.proofs.read.Goals as goal

pub returns-then-not-sound : goal.returns-then-not-sound
unfolding read_of read_answer
returns-then-not-sound c = simp (off c.if-not-sound.true-raw c.sound.ensures)

pub returns-then-u-eq0 : goal.returns-then-u-eq0
unfolding read_of read_answer
returns-then-u-eq0 c = simp (on c.if-not-sound.false-raw c.sound.ensures, eq-eqb _ _ c.if-u-eq0.true)

pub returns : goal.returns
unfolding read_of read_answer
returns c = simp (on c.if-not-sound.false-raw c.sound.ensures, ne_eqb _ _ c.if-u-eq0.false)
