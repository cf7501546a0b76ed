-- The words passed are copied, and the other bytes stand.
use Rattle.std.proofs.Common.{◌≡◌}
use Rattle.text.proofs.CopyLaws.{copied}
use Rattle.text.proofs.put.Given as goal

abbrev pub invariant-loop-i : goal.invariant-loop-i
invariant-loop-i l = l.out ≡ copied l.initial.out l.fn.at l.fn.words l.i
