-- `console::lines::write_plan` meets its contract. Assumes nothing.
use mathlib.Core.Path.{◌≡◌, sym}
use Prim.Native.Nat.{◌≤◌}
use native.Mathlib.Omega.{arith}
use lib.ListN.{length, take}
use lib.Seq.{length-take-le}
use Rattle.console.proofs.LineLaws.{tag_room, plan_wrote}
use borrow.Author.Rules.{rules}
use Rattle.console.proofs.lines.write_plan.Goals as goal

pub slice_bounds-latencies-end : goal.slice_bounds-latencies-end
slice_bounds-latencies-end c =
    let a = c.args in
    let n : length a.plan.latencies ≡ 256 = search rules in
    omega (arith, c.requires.0)

pub slice_bounds-write_cycle-end : goal.slice_bounds-write_cycle-end
slice_bounds-write_cycle-end c =
    let a = c.args in
    let n : length a.plan.latencies ≡ 256 = search rules in
    sym (length-take-le a.plan.count a.plan.latencies (omega (arith, c.requires.0)))

pub write_cycle-requires : goal.write_cycle-requires
write_cycle-requires c =
    let p = c.args.plan in
    let n : length p.latencies ≡ 256 = search rules in
    let few : length (take p.count p.latencies) ≤ 256 = omega (arith, c.requires.0, length-take-le p.count p.latencies (omega (arith, c.requires.0))) in
    tag_room p.tag c.requires.1 few c.put_value-after_tag.ensures

pub returns : goal.returns
returns c =
    let p = c.args.plan in
    plan_wrote p c.put_value-after_tag.ensures c.write_cycle.ensures
