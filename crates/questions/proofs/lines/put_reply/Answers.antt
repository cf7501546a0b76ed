-- `questions::lines::put_reply` meets its contract. Assumes nothing.
use mathlib.Core.Path.{ap, ◌∙◌}
use Rattle.text.proofs.RowLaws.{wrote_as}
use Rattle.listing.specs.Lines.{number_line}
use Rattle.questions.specs.Replies.{numbered, verdict_line, reply_to}
use Rattle.questions.proofs.ReplyLaws.{reply_told}
use Rattle.questions.proofs.lines.put_reply.Goals as goal

pub returns-in-Vector : goal.returns-in-Vector
unfolding reply_to
returns-in-Vector c = wrote_as c.put_vector.ensures (reply_told _ _ c.in-Vector.is)

pub returns-in-Row : goal.returns-in-Row
unfolding reply_to
returns-in-Row c = wrote_as c.put_row.ensures (reply_told _ _ c.in-Row.is)

pub returns-in-States : goal.returns-in-States
unfolding reply_to
returns-in-States c = wrote_as c.put_states.ensures (reply_told _ _ c.in-States.is)

pub returns-in-Greedy : goal.returns-in-Greedy
unfolding reply_to
returns-in-Greedy c = wrote_as c.put_greedy.ensures (reply_told _ _ c.in-Greedy.is)

pub returns-in-Bound : goal.returns-in-Bound
unfolding reply_to
returns-in-Bound c =
    wrote_as c.put_asked.ensures (ap (λ a. numbered a (number_line "bound ")) c.bound.ensures ∙ reply_told _ _ c.in-Bound.is)

pub returns-in-Upper : goal.returns-in-Upper
unfolding reply_to
returns-in-Upper c =
    wrote_as c.put_asked-in-Upper.ensures (ap (λ a. numbered a (number_line "upper ")) c.upper.ensures ∙ reply_told _ _ c.in-Upper.is)

pub returns-in-Constant : goal.returns-in-Constant
unfolding reply_to
returns-in-Constant c =
    wrote_as c.put_asked-in-Constant.ensures (ap (λ a. numbered a (number_line "constant ")) c.constant.ensures ∙ reply_told _ _ c.in-Constant.is)

pub returns-in-Judge : goal.returns-in-Judge
unfolding reply_to
returns-in-Judge c =
    wrote_as c.put_verdict.ensures (ap verdict_line c.judge.ensures ∙ reply_told _ _ c.in-Judge.is)
