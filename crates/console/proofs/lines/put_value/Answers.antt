-- `console::lines::put_value` meets its contract. Assumes nothing.
use Rattle.session.proofs.LineLaws.{value_wrote}
use Rattle.console.proofs.lines.put_value.Goals as goal

pub returns : goal.returns
returns c =
    value_wrote c.args.word.now c.args.number c.requires (c.put-after_word.ensures.value, c.put-after_word.ensures.out_after) (c.put_number.ensures.value, c.put_number.ensures.out_after)
