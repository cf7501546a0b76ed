-- The words passed are copied.
use Rattle.std.proofs.Common.{get_or, replicate}
use Rattle.collision.proofs.CommonLaws.{Filled}
use Rattle.collision.proofs.padded.Given as goal

abbrev pub invariant-loop-i : goal.invariant-loop-i
invariant-loop-i l = Filled (λ j. get_or l.fn.columns j 0) (replicate 64 0) l.wide l.i
