-- The numbers passed are written.
use Rattle.std.proofs.Common.{map}
use Rattle.text.specs.Wrote.{Wrote}
use Rattle.text.proofs.RowLaws.{first_spaced}
use Rattle.text.proofs.write_numbers.Given as goal

abbrev pub invariant-loop-number : goal.invariant-loop-number
invariant-loop-number g l = Wrote l.initial.out l.at (first_spaced (map g.T.Number.number l.numbers) l.number-index) l.out l.end
