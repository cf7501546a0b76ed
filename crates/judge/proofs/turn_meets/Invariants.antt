-- No start passed meets a 1 of the word.
use Rattle.std.proofs.Common.{◌≡◌, ℕ, ◌<◌, false}
use Rattle.judge.specs.Inner.{start_meets}
use Rattle.judge.proofs.turn_meets.Given as goal

abbrev pub invariant-loop-start : goal.invariant-loop-start
invariant-loop-start l = (i : ℕ) → i < l.start → start_meets l.vector l.cycle i ≡ false
