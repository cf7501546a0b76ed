-- `console::lines::write_bank` meets its contract. Assumes nothing.
use native.Mathlib.Omega.{arith}
use Rattle.console.proofs.LineLaws.{bank_room_1, bank_room_2, bank_room_3, bank_wrote}
use Rattle.console.proofs.lines.write_bank.Goals as goal

pub put_value-after_2-requires : goal.put_value-after_2-requires
put_value-after_2-requires c =
    omega (arith, bank_room_1 c.args.line.now c.args.bank.r1 c.requires (c.put_number-after_1.ensures.value, c.put_number-after_1.ensures.out_after))

pub put_value-after_3-requires : goal.put_value-after_3-requires
put_value-after_3-requires c =
    let b = c.args.bank in
    omega (arith, bank_room_2 c.args.line.now b.r1 c.requires (c.put_number-after_1.ensures.value, c.put_number-after_1.ensures.out_after) b.r2 c.put_value-after_2.ensures)

pub put_value-after_4-requires : goal.put_value-after_4-requires
put_value-after_4-requires c =
    let b = c.args.bank in
    omega (arith, bank_room_3 c.args.line.now b.r1 c.requires (c.put_number-after_1.ensures.value, c.put_number-after_1.ensures.out_after) b.r2 c.put_value-after_2.ensures b.r3 c.put_value-after_3.ensures)

pub returns : goal.returns
returns c =
    let b = c.args.bank in
    bank_wrote c.args.line.now b.r1 c.requires (c.put_number-after_1.ensures.value, c.put_number-after_1.ensures.out_after) b.r2 c.put_value-after_2.ensures b.r3 c.put_value-after_3.ensures b.r4
    c.put_value-after_4.ensures (c.put.ensures.value, c.put.ensures.out_after)
