-- `planner::plan_of` meets its contract: the bytes are the cycle's, in the rotation that comes first. Assumes nothing.
use mathlib.Core.Path.{sym, ap, ◌∙◌}
use native.Mathlib.Omega.{arith}
use lib.ListN.{length}
use Rattle.planner.proofs.PlanLaws.{found_length, bytes_front, first_below, plan_is}
use Rattle.planner.proofs.plan_of.Goals as goal

pub slice_bounds-first_rotation-end : goal.slice_bounds-first_rotation-end
slice_bounds-first_rotation-end c =
    let w = c.args.work.now in
    let n = c.args.cycle.count in
    sym (ap length (bytes_front w c.bytes_of-bytes.result n c.requires.latencies c.bytes_of-bytes.ensures) ∙ found_length w n c.requires.latencies)

pub rotated-latencies-requires : goal.rotated-latencies-requires
rotated-latencies-requires c =
    let f = first_below c.args.work.now c.bytes_of-bytes.result c.args.cycle.count c.first_rotation-first.result c.requires.some c.requires.latencies c.bytes_of-bytes.ensures c.first_rotation-first.ensures in
    (c.requires.some, c.requires.latencies.few, omega (arith, f, c.requires.some))

pub returns : goal.returns
returns c =
    plan_is c.args.tag.0 c.args.work.now c.bytes_of-bytes.result c.rotated-latencies.result c.args.cycle c.first_rotation-first.result c.requires c.bytes_of-bytes.ensures
    c.first_rotation-first.ensures c.rotated-latencies.ensures
