-- `file_questions::verdict_number` meets its contract. Assumes nothing.
use mathlib.Core.Path.{ap, sym}
use Rattle.file_questions.specs.Inner.{verdict_number}
use Rattle.file_questions.proofs.verdict_number.Goals as goal

pub returns-in-Err : goal.returns-in-Err
returns-in-Err c = ap verdict_number (sym c.in-Err.is)
