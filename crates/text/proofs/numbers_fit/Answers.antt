use Rattle.std.proofs.Common.{map, arith}
use Rattle.std.proofs.lemmas.List.{length-map}
use Rattle.text.proofs.RowLaws.{number_at, left_start, left_short, left_more, left_end}
use Rattle.text.proofs.numbers_fit.Goals as goal

pub loop-number-init : goal.loop-number-init
loop-number-init g c = left_start (map g.T.Number.number c.args.numbers.now) c.args.room

pub returns-then-left-count : goal.returns-then-left-count
returns-then-left-count g c =
    let f = g.T.Number.number in
    let xs = c.args.numbers.now in
    let here = number_at f xs c.loop-number.number-index c.number-item.result c.number.result (omega arith) c.number-item.is c.number.ensures in
    left_short (map f xs) c.args.room c.loop-number.left c.loop-number.number-index (omega (arith, length-map xs f)) c.loop-number.invariant (rw (← here) (omega arith))

pub loop-number-preserved : goal.loop-number-preserved
loop-number-preserved g c =
    let f = g.T.Number.number in
    let xs = c.args.numbers.now in
    let here = number_at f xs c.loop-number.number-index c.number-item.result c.number.result (omega arith) c.number-item.is c.number.ensures in
    left_more (map f xs) c.args.room c.loop-number.left c.loop-number.number-index _ c.loop-number.invariant (rw here at c.digits_of-count.ensures) (omega arith)

pub returns : goal.returns
returns g c =
    let f = g.T.Number.number in
    let xs = c.args.numbers.now in
    left_end (map f xs) c.args.room c.loop-number.left c.loop-number.number-index (omega (arith, length-map xs f)) c.loop-number.invariant
