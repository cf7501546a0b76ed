-- `player::play` meets its contract. The loop's invariant: the first n calls were played, and their replies written (`Playing`). Assumes nothing.
use Rattle.player.proofs.PlayLaws.{Playing}
use Rattle.player.proofs.play.Given as goal

abbrev pub invariant-loop-n : goal.invariant-loop-n
invariant-loop-n l = Playing l.initial.u l.calls l.initial.out l.initial.work l.n l.out l.work l.u
