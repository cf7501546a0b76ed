-- `console::question_of` meets its contract. Assumes nothing.
use mathlib.Core.Path.{ap, ap₂}
use Rattle.questions.specs.declared.Question.TheVariants as Question
use Rattle.session.specs.Sessions.{tag}
use Rattle.console.proofs.question_of.Goals as goal

pub returns-in-Vector : goal.returns-in-Vector
returns-in-Vector c = rw c.in-Vector.is (ap (λ n. Question.Vector (tag n)) c.byte.ensures)

pub returns-in-Row : goal.returns-in-Row
returns-in-Row c = rw c.in-Row.is (ap₂ (λ n m. Question.Row (tag n) (tag m)) c.byte.ensures c.byte-in-Row.ensures)

pub returns-in-States : goal.returns-in-States
returns-in-States c = rw c.in-States.is (ap (λ n. Question.States (tag n)) c.byte.ensures)

pub returns-in-Greedy : goal.returns-in-Greedy
returns-in-Greedy c = rw c.in-Greedy.is (ap (λ n. Question.Greedy (tag n)) c.byte.ensures)

pub returns-in-Bound : goal.returns-in-Bound
returns-in-Bound c = rw c.in-Bound.is (ap (λ n. Question.Bound (tag n)) c.byte.ensures)

pub returns-in-Upper : goal.returns-in-Upper
returns-in-Upper c = rw c.in-Upper.is (ap (λ n. Question.Upper (tag n)) c.byte.ensures)

pub returns-in-Constant : goal.returns-in-Constant
returns-in-Constant c = rw c.in-Constant.is (ap (λ n. Question.Constant (tag n)) c.byte.ensures)

pub returns-in-Judge : goal.returns-in-Judge
returns-in-Judge c = rw c.in-Judge.is (ap (λ n. Question.Judge (tag n)) c.byte.ensures)
