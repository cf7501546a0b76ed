-- The bits of the latencies passed are noted.
use Rattle.std.proofs.Common.{◌≡◌}
use Rattle.collision.specs.Inner.{nonzero}
use Rattle.collision.proofs.RowLaws.{row_before}
use Rattle.collision.proofs.row_of.Given as goal

abbrev pub invariant-loop-latency : goal.invariant-loop-latency
invariant-loop-latency l = l.row ≡ row_before (nonzero l.common) l.latency
