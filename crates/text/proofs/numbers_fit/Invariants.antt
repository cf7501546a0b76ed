-- What is left of the room, and the bytes of the numbers passed, are the room.
use Rattle.std.proofs.Common.{◌≡◌, ◌+◌, length, map}
use Rattle.text.proofs.RowLaws.{first_spaced}
use Rattle.text.proofs.numbers_fit.Given as goal

abbrev pub invariant-loop-number : goal.invariant-loop-number
invariant-loop-number g l = l.left + length (first_spaced (map g.T.Number.number l.numbers) l.number-index) ≡ l.room
