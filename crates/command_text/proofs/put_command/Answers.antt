-- `command_text::put_command` meets its contract. Assumes nothing.
use Rattle.command_text.proofs.WriteLaws.{put_after}
use Rattle.command_text.proofs.put_command.Goals as goal

pub returns : goal.returns
returns c =
    let facts = put_after _ _ _ _ (c.put_name-end.ensures.value, c.put_name-end.ensures.out_after) (c.put_words.ensures.value, c.put_words.ensures.out_after) in
    record { value = facts.0; out_after = facts.1 }
