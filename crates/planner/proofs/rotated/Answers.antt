-- `planner::rotated` meets its contract: the bytes from the place on are copied first, and those before it behind them. Assumes nothing.
use native.Mathlib.Omega.{arith}
use Rattle.planner.proofs.PlanLaws.{turned_front}
use Rattle.planner.proofs.rotated.Goals as goal

pub returns : goal.returns
returns c =
    turned_front c.args.bytes _ _ c.args.count c.args.first (omega arith) (omega arith) c.copy_from_slice.ensures.after c.copy_from_slice-2.ensures.after
