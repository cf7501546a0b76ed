-- No word passed has a bit beyond the columns.
use Rattle.std.proofs.Common.{ℕ, ◌+◌, ◌*◌, ◌<◌}
use Rattle.unit_file.specs.Read.{word32}
use Rattle.unit_file.proofs.reader.has_marks_beyond.Given as goal

abbrev pub invariant-loop-i : goal.invariant-loop-i
invariant-loop-i l = (j : ℕ) → j < l.i → word32 l.file (4 + 2 * l.functions + 4 * j) < l.top
