-- The offsets passed are good.
use Rattle.std.proofs.Common.{ℕ, ◌<◌}
use Rattle.unit_file.proofs.ReadLaws.{OffsetGood}
use Rattle.unit_file.proofs.reader.header_is_good.Given as goal

abbrev pub invariant-loop-i : goal.invariant-loop-i
invariant-loop-i l = (j : ℕ) → j < l.i → OffsetGood l.file j
