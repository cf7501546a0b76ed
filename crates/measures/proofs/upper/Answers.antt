-- `measures::upper` meets its contract: the vector's answer, and a word has at most 32 ones. Assumes nothing.
use mathlib.Core.Path.{sym, ap, ◌∙◌}
use Prim.Native.Nat.{◌+◌, ◌≤◌}
use native.Mathlib.Omega.{arith}
use Rattle.words.specs.Bits.{is_set}
use Rattle.words.specs.Below.{count_below}
use Rattle.words.proofs.BelowLaws.{count_most}
use Rattle.collision.specs.Vector.{upper_of}
use Rattle.collision.specs.Answers.{upper_answer}
use Rattle.collision.proofs.AnswerLaws.{number_refused, number_given, vector_refused, vector_given}
use Rattle.unit.proofs.Exits.{handed_on}
use Rattle.measures.proofs.upper.Goals as goal

pub overflow_add-result : goal.overflow_add-result
overflow_add-result c = let most : c.ones.result ≤ 32 = rw c.ones.ensures (count_most 32 _) in omega arith

pub returns-in_err-word : goal.returns-in_err-word
unfolding upper_answer
returns-in_err-word c = handed_on c.from_residual.ensures.1 (number_refused _ (vector_refused _ _ _ (sym c.vector.ensures ∙ c.in_err-word.was)))

pub returns : goal.returns
unfolding upper_answer upper_of
returns c =
    let v = vector_given _ _ _ (sym c.vector.ensures ∙ c.in_ok-word.was) in
    number_given v.done (ap (λ n. n + 1) (c.ones.ensures ∙ ap (λ w. count_below 32 (is_set w)) (sym v.value)))
