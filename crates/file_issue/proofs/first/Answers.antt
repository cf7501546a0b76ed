-- `file_issue::first` meets its contract. Assumes nothing.
use mathlib.Core.Path.{sym}
use Rattle.unit.proofs.EndLaws.{then_first}
use Rattle.file_issue.proofs.first.Goals as goal

pub returns-in-Err : goal.returns-in-Err
returns-in-Err c = sym (then_first _ _ c.in-Err.is)
