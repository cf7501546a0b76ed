-- The words passed are joined, and the others are as before.
use Rattle.std.proofs.Common.{◌≡◌, ℕ, ◌<◌, ◌≤◌, length, get_or}
use Rattle.collision.specs.Inner.{with_common}
use Rattle.collision.proofs.join_column.Given as goal

abbrev pub invariant-loop-apart : goal.invariant-loop-apart
invariant-loop-apart l = record {
  long : length l.common ≡ 32;
  joined : (t : ℕ) → t < l.apart → get_or l.common t 0 ≡ with_common l.earlier l.column l.word l.initial.common t;
  rest : (t : ℕ) → l.apart ≤ t → get_or l.common t 0 ≡ get_or l.initial.common t 0;
}
