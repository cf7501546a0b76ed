use Rattle.std.proofs.Common.{◌≡◌, ◌+◌, ◌-◌, arith}
use Rattle.text.proofs.RowLaws.{columns_start, columns_next, columns_more, columns_end}
use Rattle.column_text.proofs.write_columns.Goals as goal

pub loop-index-init : goal.loop-index-init
loop-index-init c =
    let a = c.args in
    let none : a.columns - a.columns ≡ 0 = omega arith in
    rw none (columns_start a.out.now a.at a.columns a.word (omega arith))

pub bounds-out-end : goal.bounds-out-end
bounds-out-end c = omega (arith, columns_next c.args.columns c.args.word _ c.loop-index.invariant)

pub loop-index-preserved : goal.loop-index-preserved
loop-index-preserved c =
    let a = c.args in
    let i = a.columns - c.loop-index.index in
    let one : a.columns - (c.loop-index.index - 1) ≡ i + 1 = omega arith in
    let here : c.loop-index.index - 1 ≡ a.columns - 1 - i = omega arith in
    rw one (columns_more a.columns a.word i _ (rw here at c.column_byte.ensures) c.requires (omega arith) c.loop-index.invariant)

pub returns : goal.returns
returns c = columns_end c.args.columns c.args.word _ (omega arith) c.loop-index.invariant
