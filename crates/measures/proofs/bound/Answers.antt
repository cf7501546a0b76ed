-- `measures::bound` meets its contract: the vector's answer. Assumes nothing.
use mathlib.Core.Path.{sym, ap, ◌∙◌}
use Rattle.clique_size.specs.Largest.{largest_clique}
use Rattle.collision.specs.Vector.{bound_of}
use Rattle.collision.specs.Answers.{bound_answer}
use Rattle.collision.proofs.AnswerLaws.{number_refused, number_given, vector_refused, vector_given}
use Rattle.unit.proofs.Exits.{handed_on}
use Rattle.measures.proofs.bound.Goals as goal

pub returns-in_err-word : goal.returns-in_err-word
unfolding bound_answer
returns-in_err-word c = handed_on c.from_residual.ensures.1 (number_refused _ (vector_refused _ _ _ (sym c.vector.ensures ∙ c.in_err-word.was)))

pub returns : goal.returns
unfolding bound_answer bound_of
returns c =
    let v = vector_given _ _ _ (sym c.vector.ensures ∙ c.in_ok-word.was) in
    number_given v.done (c.largest.ensures ∙ ap largest_clique (sym v.value))
