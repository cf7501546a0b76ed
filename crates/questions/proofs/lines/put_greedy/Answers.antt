-- `questions::lines::put_greedy` meets its contract: the latencies stand in front of the lent bytes. Assumes nothing.
use mathlib.Core.Path.{refl}
use native.Mathlib.Omega.{arith}
use lib.ListN.{replicate}
use Rattle.text.proofs.RowLaws.{wrote_as}
use Rattle.questions.proofs.StatesLaws.{front_part}
use Rattle.questions.proofs.GreedyLaws.{Handed, greedy_handed, greedy_refused, greedy_shown}
use Rattle.questions.proofs.lines.put_greedy.Goals as goal

pub slice_bounds-cycle-end : goal.slice_bounds-cycle-end
slice_bounds-cycle-end c =
    let stands : Handed c.args.u c.args.tag.0 c.greedy-asked.new.out c.in-Ok.counted = greedy_handed _ _ (replicate 256 0) refl c.greedy-asked.ensures.0 c.greedy-asked.ensures.1 c.in-Ok.is in
    stands.cycle.room

pub slice_bounds-put_cycle-end : goal.slice_bounds-put_cycle-end
slice_bounds-put_cycle-end c =
    let stands : Handed c.args.u c.args.tag.0 c.greedy-asked.new.out c.in-Ok.counted = greedy_handed _ _ (replicate 256 0) refl c.greedy-asked.ensures.0 c.greedy-asked.ensures.1 c.in-Ok.is in
    front_part stands.cycle

pub put_cycle-requires : goal.put_cycle-requires
put_cycle-requires c =
    let stands : Handed c.args.u c.args.tag.0 c.greedy-asked.new.out c.in-Ok.counted = greedy_handed _ _ (replicate 256 0) refl c.greedy-asked.ensures.0 c.greedy-asked.ensures.1 c.in-Ok.is in
    let s = stands.cycle in
    (omega (arith, s.few, s.counts, front_part s), c.requires)

pub returns-in-Err : goal.returns-in-Err
returns-in-Err c =
    wrote_as c.put_refusal.ensures (greedy_refused _ _ c.greedy-asked.ensures.0 c.in-Err.is)

pub returns-in-Ok : goal.returns-in-Ok
returns-in-Ok c =
    let stands : Handed c.args.u c.args.tag.0 c.greedy-asked.new.out c.in-Ok.counted = greedy_handed _ _ (replicate 256 0) refl c.greedy-asked.ensures.0 c.greedy-asked.ensures.1 c.in-Ok.is in
    wrote_as c.put_cycle.ensures (greedy_shown _ _ stands)
