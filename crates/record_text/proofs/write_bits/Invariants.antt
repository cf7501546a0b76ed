-- `record_text::write_bits` meets its contract. The loop's invariant: the bits passed are written. Assumes nothing.
use mathlib.Core.Path.{◌≡◌}
use Rattle.words.specs.Below.{list_below}
use Rattle.text.specs.Text.{placed}
use Rattle.record_text.specs.Lines.{bit_text}
use Rattle.record_text.proofs.write_bits.Given as goal

abbrev pub invariant-loop-i : goal.invariant-loop-i
invariant-loop-i l = l.line ≡ placed l.initial.line l.at (list_below l.i (bit_text l.ring))
