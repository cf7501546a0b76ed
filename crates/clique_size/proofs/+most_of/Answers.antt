-- The measure falls as the lowest number is taken off. Assumes nothing.
use Rattle.std.proofs.Common.{◌<◌, arith, bit_and}
use Rattle.clique_size.proofs.CodeLaws.{most_pruned, some_number, above_falls, and_falls, most_turn, most_fits}
use Rattle.clique_size.proofs.+most_of.Goals as goal

pub returns-then-ones-least : goal.returns-then-ones-least
returns-then-ones-least t c = most_pruned c.args.vector c.args.numbers c.args.least c.ones.result c.ones.ensures c.if-ones-least.true

pub most_of-with_lowest-requires : goal.most_of-with_lowest-requires
most_of-with_lowest-requires t c =
    let a = c.args in
    let some : 0 < a.numbers = some_number a.numbers a.least c.ones.result c.ones.ensures c.if-ones-least.false in
    (and_falls a.vector a.numbers c.above_lowest-above.result t some c.above_lowest-above.ensures c.decreases, tt)

pub overflow_add-with_lowest : goal.overflow_add-with_lowest
overflow_add-with_lowest t c = record {
  fits = most_fits c.args.vector (bit_and c.above_lowest-above.result c.args.vector) c.one_less.result c.most_of-with_lowest.result (omega (arith, c.one_less.ensures, c.ranges.least)) c.most_of-with_lowest.ensures;
}

pub most_of-requires : goal.most_of-requires
most_of-requires t c =
    let a = c.args in
    let some : 0 < a.numbers = some_number a.numbers a.least c.ones.result c.ones.ensures c.if-ones-least.false in
    (above_falls a.numbers c.above_lowest-above.result t some c.above_lowest-above.ensures c.decreases, tt)

pub returns : goal.returns
returns t c =
    let a = c.args in
    let some : 0 < a.numbers = some_number a.numbers a.least c.ones.result c.ones.ensures c.if-ones-least.false in
    most_turn a.vector a.numbers a.least c.above_lowest-above.result c.one_less.result c.most_of-with_lowest.result c.most_of.result
    c.ranges.numbers.fits some c.above_lowest-above.ensures c.one_less.ensures c.most_of-with_lowest.ensures c.most_of.ensures
