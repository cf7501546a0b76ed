-- `small_text::answer` meets its contract: by the number of words. Assumes nothing.
use Rattle.small_text.proofs.ToldLaws.{on_totals, on_table}
use Rattle.small_text.proofs.answer.Goals as goal

pub returns-then-request-lt3 : goal.returns-then-request-lt3
returns-then-request-lt3 c = on_totals c.if-request-lt3.true c.tell.ensures

pub returns : goal.returns
returns c =
    on_table c.if-request-lt3.false c.byte.ensures c.byte-2.ensures c.table-made.ensures c.take_unit.ensures
