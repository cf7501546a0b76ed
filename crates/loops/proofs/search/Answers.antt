-- `loops::search` meets its contract: each answer is a law of SeekLaws. Assumes nothing.
use Rattle.words.proofs.Tests.{on, off}
use Rattle.loops.proofs.SeekLaws.{promised_unsound, promised_list, promised_tag, promised_short, checked, promised_sought}
use Rattle.loops.proofs.search.Goals as goal

pub returns-then-not-sound : goal.returns-then-not-sound
returns-then-not-sound c = promised_unsound _ _ _ (off c.if-not-sound.true-raw c.sound.ensures)

pub returns-then-not-is_loop : goal.returns-then-not-is_loop
returns-then-not-is_loop c =
    promised_list _ _ _ (on c.if-not-sound.false-raw c.sound.ensures) (off c.if-not-is_loop.true-raw c.is_loop.ensures)

pub returns-then-not-known_tags : goal.returns-then-not-known_tags
returns-then-not-known_tags c =
    promised_tag _ _ _ (on c.if-not-sound.false-raw c.sound.ensures) (on c.if-not-is_loop.false-raw c.is_loop.ensures)
    (off c.if-not-known_tags.true-raw c.known_tags.ensures)

pub returns-then-work-lt16000 : goal.returns-then-work-lt16000
returns-then-work-lt16000 c =
    promised_short _ _ _ (on c.if-not-sound.false-raw c.sound.ensures) (on c.if-not-is_loop.false-raw c.is_loop.ensures)
    (on c.if-not-known_tags.false-raw c.known_tags.ensures) c.if-work-lt16000.true

pub seek-requires : goal.seek-requires
seek-requires c =
    checked _ _ _ (on c.if-not-sound.false-raw c.sound.ensures) (on c.if-not-is_loop.false-raw c.is_loop.ensures)
    (on c.if-not-known_tags.false-raw c.known_tags.ensures) c.if-work-lt16000.false

pub returns : goal.returns
returns c =
    promised_sought _ _ _ (on c.if-not-sound.false-raw c.sound.ensures) (on c.if-not-is_loop.false-raw c.is_loop.ensures)
    (on c.if-not-known_tags.false-raw c.known_tags.ensures) _ _ c.if-work-lt16000.false c.seek.ensures
