-- `table_totals::totals` meets its contract: the size, the working words, then the totals. Assumes nothing.
use Rattle.table_totals.proofs.AnswerLaws.{promise_size, promise_short, promise_done, ready}
use Rattle.table_totals.proofs.totals.Goals as goal

pub returns-then-tables-eq0 : goal.returns-then-tables-eq0
returns-then-tables-eq0 c = promise_size c.count-tables.ensures c.if-tables-eq0.true

pub returns-then-work-lt16000 : goal.returns-then-work-lt16000
returns-then-work-lt16000 c = promise_short c.count-tables.ensures c.if-tables-eq0.false c.if-work-lt16000.true

pub totals_of-requires : goal.totals_of-requires
totals_of-requires c = ready c.count-tables.ensures c.if-tables-eq0.false c.if-work-lt16000.false

pub returns : goal.returns
returns c = promise_done c.count-tables.ensures c.if-tables-eq0.false c.if-work-lt16000.false c.totals_of.ensures
