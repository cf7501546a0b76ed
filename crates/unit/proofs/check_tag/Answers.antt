-- `unit::check_tag` meets its contract: its tests in turn. Assumes nothing.
use Rattle.words.proofs.Tests.{on, off}
use Rattle.unit.specs.Calls.{tag_answer}
use Rattle.unit.proofs.check_tag.Goals as goal

pub returns-then-not-sound : goal.returns-then-not-sound
unfolding tag_answer
returns-then-not-sound c = simp (off c.if-not-sound.true-raw c.sound.ensures)

pub returns-then-not-is_inside : goal.returns-then-not-is_inside
unfolding tag_answer
returns-then-not-is_inside c = simp (on c.if-not-sound.false-raw c.sound.ensures, off c.if-not-is_inside.true-raw c.is_inside.ensures)

pub returns : goal.returns
unfolding tag_answer
returns c = simp (on c.if-not-sound.false-raw c.sound.ensures, on c.if-not-is_inside.false-raw c.is_inside.ensures)
