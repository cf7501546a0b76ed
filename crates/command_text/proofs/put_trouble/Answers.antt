-- `command_text::put_trouble` meets its contract. Assumes nothing.
use Rattle.command_table.proofs.NameLaws.{put_same}
use Rattle.command_text.proofs.WriteLaws.{front_text, front_length}
use Rattle.command_text.proofs.put_trouble.Goals as goal

pub slice_bounds-put-end : goal.slice_bounds-put-end
slice_bounds-put-end c = front_length c.write_trouble-end.ensures

pub returns : goal.returns
returns c =
    let facts = put_same _ _ (front_text c.write_trouble-end.ensures) (c.put.ensures.value, c.put.ensures.out_after) in
    record { value = facts.0; out_after = facts.1 }
