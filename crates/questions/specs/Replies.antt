-- What a designer who asks about a function is told, one line for each question.
use Rattle.std.specs.Prelude.{List, ◌++◌, ℕ, ◌+◌, Result, Ok, Err, Bool, true, false}
use Rattle.words.specs.Below.{max_below}
use Rattle.text.specs.Text.{ascii, decimal, vector_text, spaced}
use Rattle.unit.specs.declared.FunctionUnit.{FunctionUnit}
use Rattle.unit.specs.Answers.{Answer}
use Rattle.unit.specs.Table.{Table}
use Rattle.unit.specs.Unit.{marked}
use Rattle.collision.specs.Vector.{row_word}
use Rattle.collision.specs.Answers.{vector_answer, row_answer, bound_answer, upper_answer, constant_answer}
use Rattle.judge.specs.Judge.{judge_answer}
use Rattle.diagram.specs.Diagram.{width}
use Rattle.diagram.specs.Answers.{states_of, states_answer}
use Rattle.cycles.specs.Greedy.{greedy_of, greedy_refusal}
use Rattle.listing.specs.Lines.{newline, number_line, cycle_line, refused_line}
use Rattle.questions.specs.declared.Question.{Question}
use Rattle.unit.specs.declared.Refusal.{Refusal}
use Rattle.questions.specs.declared.Question.TheVariants as Question

-- the line of an answer that is not refused, else `refused` and the number
abbrev pub numbered : Result ℕ Refusal → (ℕ → List ℕ) → List ℕ
numbered (Ok n) line = line n
numbered (Err why) line = refused_line why

abbrev pub answered : Answer → List ℕ → List ℕ
answered (Ok _) line = line
answered (Err why) line = refused_line why

-- columns n to 1 of the collision vector
unfoldable pub vector_reply : FunctionUnit → ℕ → List ℕ
vector_reply u q = numbered (vector_answer u q) (λ w. ascii "vector " ++ vector_text (width w) w ++ newline)

-- the largest column with a 1 in any row of the matrix M_r, or 0
unfoldable pub matrix_width : Table → ℕ → ℕ
matrix_width T r = max_below 4 (λ i. width (row_word T (i + 1) r))

-- row q of M_r, in as many columns as any of its rows needs
unfoldable pub row_reply : FunctionUnit → ℕ → ℕ → List ℕ
row_reply u q r = numbered (row_answer u q r) (λ w. ascii "row " ++ vector_text (matrix_width (marked u) r) w ++ newline)

-- the number of states, and the states as they are listed
unfoldable pub states_reply : FunctionUnit → ℕ → List ℕ
states_reply u q =
    numbered (states_answer u q 256) (λ n. ascii "states " ++ decimal n ++ ascii ":" ++ spaced (states_of 1 (marked u) q) ++ newline)

unfoldable pub greedy_reply : FunctionUnit → ℕ → List ℕ
greedy_reply u q = answered (greedy_refusal u q 16000 256) (cycle_line "greedy" (greedy_of 1 (marked u) q))

abbrev pub verdict_line : Result Bool Refusal → List ℕ
verdict_line (Ok true) = ascii "yes\n"
verdict_line (Ok false) = ascii "no\n"
verdict_line (Err why) = refused_line why

-- the line that answers a question; the cycle is what a judge is asked about
unfoldable pub reply_to : FunctionUnit → Question → List ℕ → List ℕ
reply_to u (Question.Vector q) cycle = vector_reply u q.0
reply_to u (Question.Row q r) cycle = row_reply u q.0 r.0
reply_to u (Question.States q) cycle = states_reply u q.0
reply_to u (Question.Greedy q) cycle = greedy_reply u q.0
reply_to u (Question.Bound q) cycle = numbered (bound_answer u q.0) (number_line "bound ")
reply_to u (Question.Upper q) cycle = numbered (upper_answer u q.0) (number_line "upper ")
reply_to u (Question.Constant q) cycle = numbered (constant_answer u q.0) (number_line "constant ")
reply_to u (Question.Judge q) cycle = verdict_line (judge_answer u q.0 cycle)
