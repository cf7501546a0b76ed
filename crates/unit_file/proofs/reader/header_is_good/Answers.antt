-- `unit_file::reader::header_is_good` meets its contract. The loop's invariant: the offsets passed are good. Assumes nothing.
use mathlib.Core.Path.{sym, ◌∙◌}
use native.Mathlib.Omega.{arith}
use Rattle.unit_file.proofs.ReadLaws.{OffsetGood, header_byte, header_offset, header_good}
use Rattle.unit_file.proofs.reader.header_is_good.Goals as goal

pub returns-then-file-ne0 : goal.returns-then-file-ne0
returns-then-file-ne0 c = sym (header_byte c.args.file.now c.if-file-ne0.true)

pub returns-then-said-table_at : goal.returns-then-said-table_at
returns-then-said-table_at c =
    let f = c.args.file.now in
    let e : OffsetGood f c.loop-i.i → ⊥ = λ g. c.if-said-table_at.true (c.half_at-said.ensures ∙ g ∙ sym c.table_at.ensures) in
    sym (header_offset f c.loop-i.i c.loop-i-test.true e)

pub returns : goal.returns
returns c =
    let f = c.args.file.now in
    sym (header_good f c.if-file-ne0.false (λ i l. c.loop-i.invariant i (omega arith)))
