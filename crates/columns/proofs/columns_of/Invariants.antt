-- The words passed are copied.
use Rattle.std.proofs.Common.{◌≡◌, length}
use Rattle.columns.proofs.CopyLaws.{Copied}
use Rattle.columns.proofs.columns_of.Given as goal

abbrev pub invariant-loop-i : goal.invariant-loop-i
invariant-loop-i l = (length l.columns ≡ 32) × Copied l.columns l.fn.u.marks l.first l.i
