-- When a question about the collisions or the states of a function of a unit file is refused; for that about its vector see `tag_refusal`, crate
-- file_answers. Assumes nothing.
use Rattle.std.specs.Prelude.{ℕ, List}
use Rattle.words.specs.Bytes.{narrow}
use Rattle.unit.specs.Answers.{Answer}
use Rattle.unit.specs.Calls.{tag_answer}
use Rattle.unit_file.specs.Read.{unit_in, file_then}
use Rattle.collision.specs.Answers.{tags_answer}
use Rattle.judge.specs.Judge.{cycle_answer}
use Rattle.diagram.specs.Answers.{states_refusal}

-- about two: a row of a matrix
unfoldable pub tags_refusal : List ℕ → ℕ → ℕ → Answer
tags_refusal file q r = file_then file (tags_answer (unit_in file) (narrow q) (narrow r))

-- about a cycle
unfoldable pub judge_refusal : List ℕ → ℕ → List ℕ → Answer
judge_refusal file q cycle = file_then file (cycle_answer (tag_answer (unit_in file) (narrow q)) cycle)

-- for the states, with so many words of output
unfoldable pub list_refusal : List ℕ → ℕ → ℕ → Answer
list_refusal file q room = file_then file (states_refusal (unit_in file) (narrow q) room)
