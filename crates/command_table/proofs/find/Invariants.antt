-- `command_table::find` meets its contract. Assumes nothing.
use Rattle.command_table.proofs.NameLaws.{Passed}
use Rattle.command_table.proofs.find.Given as goal

abbrev pub invariant-loop-row : goal.invariant-loop-row
invariant-loop-row l = Passed l.word l.row
