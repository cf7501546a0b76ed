-- The functions passed are filled.
use Rattle.std.proofs.Common.{◌≡◌}
use Rattle.unit_file.specs.InnerRead.{unit_before}
use Rattle.unit_file.proofs.reader.fill.Given as goal

abbrev pub invariant-loop-tag : goal.invariant-loop-tag
invariant-loop-tag l = l.unit ≡ unit_before l.file l.tag 1
