-- `command_text::put_usage` meets its contract. Assumes nothing.
use Rattle.command_text.proofs.WriteLaws.{usage_wrote}
use Rattle.command_text.proofs.put_usage.Goals as goal

pub returns : goal.returns
returns c =
    usage_wrote c.args.row (c.put-after_word.ensures.value, c.put-after_word.ensures.out_after) (c.put_usage.ensures.value, c.put_usage.ensures.out_after) c.requires
