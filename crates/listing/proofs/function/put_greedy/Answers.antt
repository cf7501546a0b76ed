-- `listing::function::put_greedy` meets its contract: with the lent words and bytes the call is not refused, and the cycle stands in front of the bytes.
-- Assumes nothing.
use mathlib.Core.Path.{refl}
use native.Mathlib.Omega.{arith}
use lib.ListN.{replicate}
use Rattle.unit.specs.Unit.{marked}
use Rattle.text.specs.Text.{ascii}
use Rattle.cycles.specs.Greedy.{greedy_of}
use Rattle.listing.proofs.StandingLaws.{Standing, standing_part, standing_line, greedy_handed, greedy_stands}
use Rattle.listing.proofs.function.put_greedy.Goals as goal

pub returns-in_default : goal.returns-in_default
returns-in_default c = greedy_handed c.requires.0 c.greedy-found.ensures.0 c.in_default.is

pub slice_bounds-cycle-end : goal.slice_bounds-cycle-end
slice_bounds-cycle-end c =
    let stands : Standing (greedy_of 1 (marked c.args.u) c.args.tag.0) c.in-Ok.counted.count c.in-Ok.counted.sum c.greedy-found.new.out = greedy_stands c.requires.0 (replicate 256 0) refl c.greedy-found.ensures.0 c.greedy-found.ensures.1 c.in-Ok.is in
    stands.room

pub slice_bounds-put_cycle-end-2 : goal.slice_bounds-put_cycle-end-2
slice_bounds-put_cycle-end-2 c =
    let stands : Standing (greedy_of 1 (marked c.args.u) c.args.tag.0) c.in-Ok.counted.count c.in-Ok.counted.sum c.greedy-found.new.out = greedy_stands c.requires.0 (replicate 256 0) refl c.greedy-found.ensures.0 c.greedy-found.ensures.1 c.in-Ok.is in
    standing_part stands

pub put_cycle-requires : goal.put_cycle-requires
put_cycle-requires c =
    let stands : Standing (greedy_of 1 (marked c.args.u) c.args.tag.0) c.in-Ok.counted.count c.in-Ok.counted.sum c.greedy-found.new.out = greedy_stands c.requires.0 (replicate 256 0) refl c.greedy-found.ensures.0 c.greedy-found.ensures.1 c.in-Ok.is in
    let s = stands in
    omega (arith, s.few, s.counts, standing_part s, c.requires.1)

pub returns : goal.returns
returns c =
    let stands : Standing (greedy_of 1 (marked c.args.u) c.args.tag.0) c.in-Ok.counted.count c.in-Ok.counted.sum c.greedy-found.new.out = greedy_stands c.requires.0 (replicate 256 0) refl c.greedy-found.ensures.0 c.greedy-found.ensures.1 c.in-Ok.is in
    standing_line (ascii "greedy") 1046 stands (omega arith) c.put_cycle.ensures
