-- The columns passed are collected.
use Rattle.std.proofs.Common.{◌≡◌, length}
use Rattle.collision.proofs.CommonLaws.{Collected}
use Rattle.collision.proofs.common_segments.Given as goal

abbrev pub invariant-loop-passed : goal.invariant-loop-passed
invariant-loop-passed l = (length l.common ≡ 32) × Collected l.fn.later l.wide l.passed l.common
