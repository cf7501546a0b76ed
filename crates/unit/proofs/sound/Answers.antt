-- `unit::sound` meets its contract: its tests in turn, and the test of the words is that of the marks. Assumes nothing.
use Rattle.words.proofs.Tests.{on, off, and_left, and_right}
use Rattle.unit.specs.Unit.{inside, sound_of}
use Rattle.unit.proofs.Laws.{within}
use Rattle.unit.proofs.SoundLaws.{tested_means}
use Rattle.unit.proofs.sound.Goals as goal

pub returns-then-not-counts : goal.returns-then-not-counts
unfolding sound_of
returns-then-not-counts c = simp (off c.if-not-counts.true-raw c.counts.ensures)

pub returns-then-not-plan_is_sound : goal.returns-then-not-plan_is_sound
unfolding sound_of
returns-then-not-plan_is_sound c = simp (on c.if-not-counts.false-raw c.counts.ensures, off c.if-not-plan_is_sound.true-raw c.plan_is_sound.ensures)

pub clean_marks-requires : goal.clean_marks-requires
clean_marks-requires c =
    let u = c.args.u in
    let g = on c.if-not-counts.false-raw c.counts.ensures in
    let h = and_right (inside u.functions 4) _ g in (
      (within u.functions 4 (and_left (inside u.functions 4) _ g)).most,
      (within u.segments 16 (and_left (inside u.segments 16) _ h)).most,
      (within u.columns 32 (and_right (inside u.segments 16) _ h)).most,
    )

pub returns : goal.returns
unfolding sound_of
returns c =
    let u = c.args.u in
    let g = on c.if-not-counts.false-raw c.counts.ensures in
    simp (g, on c.if-not-plan_is_sound.false-raw c.plan_is_sound.ensures)
    (tested_means u c.clean_marks.result (and_left (inside u.segments 16) _ (and_right (inside u.functions 4) _ g)) c.clean_marks.ensures)
