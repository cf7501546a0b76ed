-- `table_totals::tally_all` meets its contract. The loop's invariant: the tables before the number are tallied. Assumes nothing.
use Rattle.table_numbers.specs.Tables.{all_tables}
use Rattle.table_totals.specs.Inner.{Used, Tallied}
use Rattle.table_totals.proofs.tally_all.Given as goal

abbrev pub invariant-loop-number : goal.invariant-loop-number
invariant-loop-number l = Tallied (all_tables l.segments l.columns) l.number l.tally × Used l.initial.work l.work
