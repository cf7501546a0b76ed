-- `delays::place_all` meets its contract. Assumes nothing.
use mathlib.Core.Path.{◌∙◌}
use native.Mathlib.Omega.{arith}
use Rattle.delays.proofs.EndLaws.{counts, can_move, ends_beyond, ends_placed}
use Rattle.delays.proofs.place_all.Goals as goal

pub places_of-spots-requires : goal.places_of-spots-requires
places_of-spots-requires c = ((counts c.args.u c.args.columns c.args.latency c.requires).columns.1, c.requires.least, c.requires.most)

pub overflow_sub-width : goal.overflow_sub-width
overflow_sub-width c = omega (arith, (counts c.args.u c.args.columns c.args.latency c.requires).columns.0)

pub bounds-spots-count : goal.bounds-spots-count
bounds-spots-count c = omega (arith, (counts c.args.u c.args.columns c.args.latency c.requires).columns.0, (counts c.args.u c.args.columns c.args.latency c.requires).columns.1)

pub returns-then-width-gt32 : goal.returns-then-width-gt32
returns-then-width-gt32 c = c.refused.ensures ∙ ends_beyond c.args.u c.args.columns c.args.latency c.requires _ c.places_of-spots.ensures c.if-width-gt32.true

pub moved_unit-made-requires : goal.moved_unit-made-requires
moved_unit-made-requires c = can_move c.args.u c.args.columns c.args.latency c.requires _ c.places_of-spots.ensures c.if-width-gt32.false

pub returns : goal.returns
returns c = ends_placed c.args.u c.args.columns c.args.latency c.requires _ c.places_of-spots.ensures _ c.if-width-gt32.false c.moved_unit-made.ensures
