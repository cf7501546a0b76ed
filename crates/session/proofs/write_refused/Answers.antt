-- `session::write_refused` meets its contract. Assumes nothing.
use native.Mathlib.Omega.{arith}
use Rattle.text.specs.Text.{ascii}
use Rattle.session.proofs.LineLaws.{value_wrote, refused_wrote}
use Rattle.session.proofs.write_refused.Goals as goal

pub returns : goal.returns
returns c =
    refused_wrote c.args.why c.from.ensures c.requires (value_wrote (ascii "refused ") _ (omega arith) (c.put-after_word.ensures.value, c.put-after_word.ensures.out_after) (c.put_number-after_number.ensures.value, c.put_number-after_number.ensures.out_after))
    (c.put.ensures.value, c.put.ensures.out_after)
