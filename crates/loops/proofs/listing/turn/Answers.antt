-- `loops::listing::turn` meets its contract. Assumes nothing.
use Rattle.loops.proofs.TurnLaws.{made, turned_old, turned_full, turned_new}
use native.Mathlib.Omega.{arith}
use Rattle.loops.proofs.listing.turn.Goals as goal

pub returns-then-x-count : goal.returns-then-x-count
returns-then-x-count c =
    let m = made _ _ _ _ _ _ _ _ c.lead-x.ensures c.requires.word_value (omega (arith, c.requires.at_lt_count.0)) c.requires.at_lt_count.1.0 c.requires.at_lt_count.1.1 in
    turned_old _ _ _ _ _ _ _ _ m c.requires.at_lt_count.0 c.requires.at_lt_count.1.0 c.requires.at_lt_count.1.1 c.requires.position_bound.1.0 c.requires.position_bound.1.1 _ c.note.ensures c.if-x-count.true

pub returns-then-count-gt255 : goal.returns-then-count-gt255
returns-then-count-gt255 c =
    let m = made _ _ _ _ _ _ _ _ c.lead-x.ensures c.requires.word_value (omega (arith, c.requires.at_lt_count.0)) c.requires.at_lt_count.1.0 c.requires.at_lt_count.1.1 in
    turned_full _ _ _ _ _ _ _ _ m c.requires.at_lt_count.0 c.requires.at_lt_count.1.0 c.requires.at_lt_count.1.1 c.requires.position_bound.1.0 c.requires.position_bound.1.1 c.if-x-count.false c.if-count-gt255.true

pub returns : goal.returns
returns c =
    let m = made _ _ _ _ _ _ _ _ c.lead-x.ensures c.requires.word_value (omega (arith, c.requires.at_lt_count.0)) c.requires.at_lt_count.1.0 c.requires.at_lt_count.1.1 in
    turned_new _ _ _ _ _ _ _ _ m c.requires.at_lt_count.0 c.requires.at_lt_count.1.0 c.requires.at_lt_count.1.1 c.requires.position_bound.1.0 c.requires.position_bound.1.1 _ c.note-2.ensures c.if-x-count.false c.if-count-gt255.false
