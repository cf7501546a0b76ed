-- `plan_record::write_record` meets its contract: the three parts, one behind the other. Assumes nothing.
use mathlib.Core.Path.{◌≡◌}
use native.Mathlib.Omega.{arith}
use borrow.Author.Rules.{rules}
use lib.ListN.{length}
use Rattle.plan_record.proofs.PlanLaws.{held, ring_room, plan_placed}
use Rattle.plan_record.proofs.write_record.Goals as goal

pub slice_bounds-latencies-end : goal.slice_bounds-latencies-end
slice_bounds-latencies-end c =
    let p = c.args.plan in
    let n : length p.latencies ≡ 256 = search rules in
    let h = held p c.requires.plan in
    omega (arith, h.holds.count, h.cycle.few)

pub slice_bounds-put-end-2 : goal.slice_bounds-put-end-2
slice_bounds-put-end-2 c = (held c.args.plan c.requires.plan).holds.count

pub slice_bounds-latencies-end-2 : goal.slice_bounds-latencies-end-2
slice_bounds-latencies-end-2 c =
    let p = c.args.plan in
    let n : length p.latencies ≡ 256 = search rules in
    let h = held p c.requires.plan in
    omega (arith, h.holds.count, h.cycle.few)

pub slice_bounds-write_ring-end : goal.slice_bounds-write_ring-end
slice_bounds-write_ring-end c = (held c.args.plan c.requires.plan).holds.count

pub write_ring-requires : goal.write_ring-requires
write_ring-requires c =
    let r = ring_room c.args.plan (length c.args.out.now) c.requires.plan c.requires.fits in
    (r.0, omega (arith, r.1, c.put-2.auto.out, c.put.auto.out), (held c.args.plan c.requires.plan).cycle)

pub returns : goal.returns
returns c =
    plan_placed c.args.plan c.fields_of-head.result c.args.out.now c.put.new.out c.put-2.new.out c.write_ring.new.out
    c.requires.plan c.requires.fits c.fields_of-head.ensures c.put.ensures.out_after c.put-2.ensures.out_after c.write_ring.ensures
