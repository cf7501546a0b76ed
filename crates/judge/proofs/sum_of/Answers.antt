use Rattle.std.proofs.Common.{◌≡◌, sym, ap, ◌∙◌, take, arith}
use lib.Seq.{get_or-take}
use Rattle.collision.specs.Pipeline.{total}
use Rattle.collision.proofs.StartLaws.{sum_more}
use Rattle.judge.proofs.CycleLaws.{counted_facts, counted_length}
use Rattle.judge.proofs.sum_of.Goals as goal

pub slice_bounds-latency-items-end : goal.slice_bounds-latency-items-end
slice_bounds-latency-items-end c = sym (counted_length _ _ c.requires)

pub overflow_add-sum : goal.overflow_add-sum
overflow_add-sum c =
    let i = c.loop-latency.latency-index in
    let r = counted_facts _ _ c.requires in
    let n = counted_length _ _ c.requires in
    let e = get_or-take c.args.count c.args.list.now i 0 (omega arith) in
    let b = c.type_inv.list i in
    omega arith

pub loop-latency-preserved : goal.loop-latency-preserved
loop-latency-preserved c =
    let i = c.loop-latency.latency-index in
    let r = counted_facts _ _ c.requires in
    let n = counted_length _ _ c.requires in
    let e = get_or-take c.args.count c.args.list.now i 0 (omega arith) in
    let b = c.type_inv.list i in
    (omega arith, rw e (sum_more _ i c.loop-latency.sum (omega arith) c.loop-latency.invariant.1))

pub returns : goal.returns
returns c =
    let n = counted_length _ _ c.requires in
    let e : c.loop-latency.latency-index ≡ c.args.count = omega arith in
    (c.loop-latency.invariant.1 ∙ ap (λ k. total (take k c.args.list.now)) e, omega arith, (counted_facts _ _ c.requires).most)
