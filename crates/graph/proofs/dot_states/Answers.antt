-- `graph::dot_states` meets its contract: the states are too many, or the diagram is written. Assumes nothing.
use mathlib.Core.Path.{◌≡◌, sym}
use native.Mathlib.Omega.{arith}
use lib.ListN.{length, take}
use lib.Seq.{length-take-le}
use borrow.Author.Rules.{rules}
use Rattle.graph.proofs.AnswerLaws.{Handed, handed_part, handed_listing, plan_few, dot_many, dot_handed, dot_drawn}
use Rattle.graph.proofs.dot_states.Goals as goal

pub returns-in_default : goal.returns-in_default
returns-in_default c =
    let a = c.args in
    dot_many a.u a.tag.0 c.requires.0 a.out.now c.requires.1 c.states-counted.ensures.0 c.in_default.is

pub slice_bounds-list-end : goal.slice_bounds-list-end
slice_bounds-list-end c =
    let handed : Handed c.args.u c.args.tag.0 c.in-Ok.number c.states-counted.new.out = dot_handed c.args.u c.args.tag.0 c.requires.0 c.states-counted.ensures.0 c.states-counted.ensures.1 c.in-Ok.is in
    handed.room

pub slice_bounds-put_diagram-end : goal.slice_bounds-put_diagram-end
slice_bounds-put_diagram-end c =
    let handed : Handed c.args.u c.args.tag.0 c.in-Ok.number c.states-counted.new.out = dot_handed c.args.u c.args.tag.0 c.requires.0 c.states-counted.ensures.0 c.states-counted.ensures.1 c.in-Ok.is in
    handed_part handed

pub slice_bounds-latencies-end : goal.slice_bounds-latencies-end
slice_bounds-latencies-end c =
    let long : length c.args.u.plan.latencies ≡ 256 = search rules in
    omega (arith, long, c.cycle_length-length.ensures, plan_few c.args.u c.args.tag.0 c.requires.0)

pub slice_bounds-put_diagram-end-2 : goal.slice_bounds-put_diagram-end-2
slice_bounds-put_diagram-end-2 c =
    let long : length c.args.u.plan.latencies ≡ 256 = search rules in
    let planned : length (take c.cycle_length-length.result c.args.u.plan.latencies) ≡ c.cycle_length-length.result = length-take-le _ _ (omega (arith, long, c.cycle_length-length.ensures, plan_few c.args.u c.args.tag.0 c.requires.0)) in
    sym planned

pub put_diagram-end-requires : goal.put_diagram-end-requires
put_diagram-end-requires c =
    let long : length c.args.u.plan.latencies ≡ 256 = search rules in
    let handed : Handed c.args.u c.args.tag.0 c.in-Ok.number c.states-counted.new.out = dot_handed c.args.u c.args.tag.0 c.requires.0 c.states-counted.ensures.0 c.states-counted.ensures.1 c.in-Ok.is in
    let planned : length (take c.cycle_length-length.result c.args.u.plan.latencies) ≡ c.cycle_length-length.result = length-take-le _ _ (omega (arith, long, c.cycle_length-length.ensures, plan_few c.args.u c.args.tag.0 c.requires.0)) in
    let few = plan_few c.args.u c.args.tag.0 c.requires.0 in
    (handed_listing handed, omega (arith, few, c.cycle_length-length.ensures, planned), c.requires.1)

pub returns : goal.returns
returns c =
    let handed : Handed c.args.u c.args.tag.0 c.in-Ok.number c.states-counted.new.out = dot_handed c.args.u c.args.tag.0 c.requires.0 c.states-counted.ensures.0 c.states-counted.ensures.1 c.in-Ok.is in
    let a = c.args in
    dot_drawn a.u a.tag.0 c.requires.0 a.out.now c.requires.1 handed c.cycle_length-length.ensures c.put_diagram-end.ensures
