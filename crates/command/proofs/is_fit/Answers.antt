-- `command::is_fit` meets its contract. Assumes nothing.
use Rattle.command.proofs.LineLaws.{fit_numbers, fit_numbers_not, fit_cycle, fit_cycle_not}
use Rattle.command.proofs.is_fit.Goals as goal

pub returns-then-words-count : goal.returns-then-words-count
returns-then-words-count c = rw c.in-Numbers.is (fit_numbers c.args.words _ c.if-words-count.true)

pub returns-else-words-count : goal.returns-else-words-count
returns-else-words-count c = rw c.in-Numbers.is (fit_numbers_not c.args.words _ c.if-words-count.false)

pub returns-in-Optional : goal.returns-in-Optional
returns-in-Optional c = rw c.in-Optional.is c.is_optional.ensures

pub returns-in-File : goal.returns-in-File
returns-in-File c = rw c.in-File.is c.is_file.ensures

pub returns-in-OptionalFile : goal.returns-in-OptionalFile
returns-in-OptionalFile c = rw c.in-OptionalFile.is c.is_optional_file.ensures

pub returns-then-words-ge1 : goal.returns-then-words-ge1
returns-then-words-ge1 c = rw c.in-Cycle.is (fit_cycle c.args.words c.if-words-ge1.true)

pub returns-else-words-ge1 : goal.returns-else-words-ge1
returns-else-words-ge1 c = rw c.in-Cycle.is (fit_cycle_not c.args.words c.if-words-ge1.false)

pub returns-in-List : goal.returns-in-List
returns-in-List c = rw c.in-List.is
