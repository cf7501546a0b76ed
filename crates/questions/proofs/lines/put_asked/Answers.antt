-- `questions::lines::put_asked` meets its contract. Assumes nothing.
use Rattle.text.proofs.RowLaws.{wrote_as}
use Rattle.questions.proofs.ReplyLaws.{numbered_refused, numbered_value}
use Rattle.questions.proofs.lines.put_asked.Goals as goal

pub returns-in-Err : goal.returns-in-Err
returns-in-Err c = wrote_as c.put_refusal.ensures (numbered_refused _ c.in-Err.is)

pub returns-in-Ok : goal.returns-in-Ok
returns-in-Ok c = wrote_as c.put_value.ensures (numbered_value _ c.in-Ok.is)
