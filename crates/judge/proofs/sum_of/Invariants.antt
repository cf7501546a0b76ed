-- The sum is that of the bytes passed.
use Rattle.std.proofs.Common.{◌≡◌, ◌*◌, ◌≤◌, take}
use Rattle.collision.specs.Pipeline.{total}
use Rattle.judge.proofs.sum_of.Given as goal

abbrev pub invariant-loop-latency : goal.invariant-loop-latency
invariant-loop-latency l = (l.sum ≤ 255 * l.latency-index) × (l.sum ≡ total (take l.latency-index l.list))
