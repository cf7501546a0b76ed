-- `command::scan::bytes_after` meets its contract. Assumes nothing.
use mathlib.Core.Path.{◌∙◌}
use native.Mathlib.Omega.{arith}
use Rattle.command.proofs.WordLaws.{word_inside}
use Rattle.command.proofs.FillLaws.{fill_start, fill_length, fill_more, fill_on, fill_end, fill_full}
use Rattle.command.proofs.scan.bytes_after.Goals as goal

pub loop-at-init : goal.loop-at-init
loop-at-init c = fill_start _ c.word_start-at.ensures

pub shape_of-list-then-count-list : goal.shape_of-list-then-count-list
shape_of-list-then-count-list c = fill_length c.loop-at.invariant

pub returns-then-count-list : goal.returns-then-count-list
returns-then-count-list c =
    let facts = fill_full c.loop-at.invariant (c.if-count-list.true ∙ fill_length c.loop-at.invariant) in
    record { value = facts.0; list_after = facts.1 }

pub slice_bounds-byte_of-end : goal.slice_bounds-byte_of-end
slice_bounds-byte_of-end c = word_inside _ _ _ c.word_end-end.ensures (omega arith)

pub bounds-list-count : goal.bounds-list-count
bounds-list-count c = let f = c.loop-at.invariant in omega (arith, fill_length f, f.room, c.if-count-list.false)

pub word_start-at-requires-in-loop-at : goal.word_start-at-requires-in-loop-at
word_start-at-requires-in-loop-at c = word_inside _ _ _ c.word_end-end.ensures (omega arith)

pub loop-at-smaller : goal.loop-at-smaller
loop-at-smaller c = omega (arith, fill_on _ c.loop-at.invariant c.loop-at-test.true c.word_end-end.ensures c.word_start-at-in-loop-at.ensures)

pub loop-at-preserved : goal.loop-at-preserved
loop-at-preserved c = let f = c.loop-at.invariant in fill_more _ _ f c.loop-at-test.true (omega (arith, fill_length f, f.room, c.if-count-list.false)) c.word_end-end.ensures c.byte_of.ensures c.word_start-at-in-loop-at.ensures

pub shape_of-list : goal.shape_of-list
shape_of-list c = fill_length c.loop-at.invariant

pub returns : goal.returns
returns c =
    let facts = fill_end c.loop-at.invariant c.loop-at-test.false in
    record { value = facts.0; list_after = facts.1 }
