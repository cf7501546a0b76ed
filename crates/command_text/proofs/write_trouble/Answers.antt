-- `command_text::write_trouble` meets its contract. Assumes nothing.
use native.Mathlib.Omega.{arith}
use Rattle.command_text.proofs.WriteLaws.{trouble_head, trouble_room, trouble_wrote}
use Rattle.command_text.proofs.write_trouble.Goals as goal

pub put_expected-after_text-requires : goal.put_expected-after_text-requires
put_expected-after_text-requires c =
    let n = c.args.number in
    trouble_room n (omega arith) (trouble_head n (omega arith) (c.put-after_word.ensures.value, c.put-after_word.ensures.out_after) (c.put_number-after_number.ensures.value, c.put_number-after_number.ensures.out_after) (c.put-after_colon.ensures.value, c.put-after_colon.ensures.out_after) c.requires) c.requires

pub returns : goal.returns
returns c =
    let n = c.args.number in
    trouble_wrote n c.args.trouble (omega arith)
    (trouble_head n (omega arith) (c.put-after_word.ensures.value, c.put-after_word.ensures.out_after) (c.put_number-after_number.ensures.value, c.put_number-after_number.ensures.out_after) (c.put-after_colon.ensures.value, c.put-after_colon.ensures.out_after) c.requires)
    c.put_expected-after_text.ensures (c.put.ensures.value, c.put.ensures.out_after) c.requires
