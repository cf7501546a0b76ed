-- The word has no 1 for the intervals passed, the last of which is at most 32 and at least the number of steps.
use Rattle.std.proofs.Common.{◌≤◌}
use Rattle.judge.proofs.IntervalLaws.{Passed}
use Rattle.judge.proofs.start_meets.Given as goal

abbrev pub invariant-loop-step : goal.invariant-loop-step
invariant-loop-step l = (l.step ≤ l.interval) × (l.interval ≤ 32) × Passed l.vector l.cycle l.start l.step l.interval
