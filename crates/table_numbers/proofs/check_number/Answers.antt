-- `table_numbers::check_number` meets its contract: the number is below the count of the size, or it has no table. Assumes nothing.
use Rattle.table_numbers.proofs.TableLaws.{number_below, number_beyond}
use Rattle.table_numbers.proofs.check_number.Goals as goal

pub returns-then-number-count : goal.returns-then-number-count
returns-then-number-count c = number_below _ _ _ (rw c.count.ensures at c.if-number-count.true)

pub returns : goal.returns
returns c = number_beyond _ _ _ (rw c.count.ensures at c.if-number-count.false)
