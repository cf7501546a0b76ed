-- `chart::rows::spaces_before` meets its contract. Assumes nothing.
use Prim.Native.Nat.{◌^◌, ◌<◌}
use Rattle.chart.proofs.DigitLaws.{Counted}
use Rattle.chart.proofs.rows.spaces_before.Given as goal

abbrev pub invariant-loop-room : goal.invariant-loop-room
invariant-loop-room l = Counted l.number l.most l.rest l.room l.spaces × (l.most < 2 ^ 32)

abbrev pub decreases-loop-room : goal.decreases-loop-room
decreases-loop-room l = l.room
