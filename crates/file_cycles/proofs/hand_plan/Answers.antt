-- `file_cycles::hand_plan` meets its contract: the refusal, or the cycle at the front of the bytes. Assumes nothing.
use mathlib.Core.Path.{sym}
use Prim.Native.Nat.{◌≤◌}
use lib.ListN.{length}
use lib.Seq.{length-take-le}
use Rattle.file_cycles.proofs.SearchLaws.{plan_refused, plan_handed}
use Rattle.file_cycles.proofs.hand_plan.Goals as goal

pub returns-in_default : goal.returns-in_default
returns-in_default c =
    let facts = plan_refused _ c.args.plan _ _ _ c.in_default.is c.number_in.ensures in
    record { value = facts.0; out_after = facts.1.0; count_after = facts.1.1.0; sum_after = facts.1.1.1 }

pub slice_bounds-latencies-end : goal.slice_bounds-latencies-end
slice_bounds-latencies-end c =
    let inside : c.args.plan.count ≤ length c.args.plan.latencies = c.requires c.in-Ok.is in
    inside

pub slice_bounds-put-end : goal.slice_bounds-put-end
slice_bounds-put-end c =
    let inside : c.args.plan.count ≤ length c.args.plan.latencies = c.requires c.in-Ok.is in
    sym (length-take-le _ _ inside)

pub returns : goal.returns
returns c =
    let facts = plan_handed _ c.args.plan _ _ _ c.in-Ok.is c.put.ensures.out_after in
    record { value = facts.0; out_after = facts.1.0; count_after = facts.1.1.0; sum_after = facts.1.1.1 }
