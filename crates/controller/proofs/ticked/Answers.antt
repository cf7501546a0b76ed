-- `controller::ticked` meets its contract: the unit is tried, and a sound one has the bank shifted. Assumes nothing.
use Rattle.words.proofs.Tests.{on, off}
use Rattle.controller.specs.Bank.{event_answer, moved, step_of}
use Rattle.controller.proofs.ticked.Goals as goal

pub returns-then-not-sound : goal.returns-then-not-sound
unfolding event_answer step_of
returns-then-not-sound c =
    let e = off c.if-not-sound.true-raw c.sound.ensures in
    (simp e, simp e)

pub returns : goal.returns
unfolding event_answer step_of moved
returns c =
    let e = on c.if-not-sound.false-raw c.sound.ensures in
    (simp e, simp (e, c.shifted_bank-later.ensures))
