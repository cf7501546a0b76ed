use Rattle.std.proofs.Common.{map, arith}
use Rattle.std.proofs.lemmas.List.{length-map}
use Rattle.text.proofs.RowLaws.{number_at, row_start, row_room, row_more, row_end}
use Rattle.text.proofs.write_numbers.Goals as goal

pub loop-number-init : goal.loop-number-init
loop-number-init g c = row_start c.args.out.now c.args.at (map g.T.Number.number c.args.numbers.now) (omega arith)

pub write_spaced-end-requires : goal.write_spaced-end-requires
write_spaced-end-requires g c =
    let f = g.T.Number.number in
    let xs = c.args.numbers.now in
    let here = number_at f xs c.loop-number.number-index c.number-item.result c.number.result (omega arith) c.number-item.is c.number.ensures in
    rw here (row_room (map f xs) c.loop-number.number-index (omega (arith, length-map xs f)) c.requires c.loop-number.invariant)

pub loop-number-preserved : goal.loop-number-preserved
loop-number-preserved g c =
    let f = g.T.Number.number in
    let xs = c.args.numbers.now in
    let here = number_at f xs c.loop-number.number-index c.number-item.result c.number.result (omega arith) c.number-item.is c.number.ensures in
    row_more (map f xs) c.loop-number.number-index c.loop-number.invariant (rw here at c.write_spaced-end.ensures)

pub returns : goal.returns
returns g c =
    let f = g.T.Number.number in
    let xs = c.args.numbers.now in
    row_end (map f xs) c.loop-number.number-index (omega (arith, length-map xs f)) c.loop-number.invariant
