-- `command::scan::scan_words` meets its contract. Assumes nothing.
use native.Mathlib.Omega.{arith}
use Rattle.command.proofs.WordLaws.{word_inside}
use Rattle.command.proofs.ScanLaws.{scan_start, scan_more, scan_on, scan_end}
use Rattle.command.proofs.scan.scan_words.Goals as goal

pub loop-at-init : goal.loop-at-init
loop-at-init c = scan_start c.word_start-at.ensures

pub slice_bounds-with_word-end : goal.slice_bounds-with_word-end
slice_bounds-with_word-end c = word_inside _ _ _ c.word_end-end.ensures (omega arith)

pub word_start-at-requires-in-loop-at : goal.word_start-at-requires-in-loop-at
word_start-at-requires-in-loop-at c = word_inside _ _ _ c.word_end-end.ensures (omega arith)

pub loop-at-smaller : goal.loop-at-smaller
loop-at-smaller c = omega (arith, scan_on _ c.loop-at.invariant c.loop-at-test.true c.word_end-end.ensures c.word_start-at-in-loop-at.ensures)

pub loop-at-preserved : goal.loop-at-preserved
loop-at-preserved c = scan_more _ _ c.loop-at.invariant c.loop-at-test.true c.word_end-end.ensures c.with_word-words.ensures c.word_start-at-in-loop-at.ensures

pub returns : goal.returns
returns c = scan_end c.loop-at.invariant c.loop-at-test.false
