-- What a question about a unit file answers and hands out. Assumes nothing.
use Rattle.std.specs.Prelude.{ℕ, List, Result, Ok, Err}
use Rattle.words.specs.Bytes.{narrow}
use Rattle.unit.specs.Answers.{Answer}
use Rattle.unit.specs.Numbers.{number_of}
use Rattle.unit.specs.Calls.{tag_answer}
use Rattle.unit_file.specs.Read.{unit_in, file_then}
use Rattle.unit.specs.declared.Refusal.{Refusal}

-- what was asked of the unit of a file; a refused file's refusal goes first
abbrev pub read_then : Answer → Result ℕ Refusal → Result ℕ Refusal
read_then (Ok _) n = n
read_then (Err why) n = Err why

-- what is told of it: 0, or the number of the refusal
abbrev pub number_told : Result ℕ Refusal → ℕ
number_told (Ok n) = 0
number_told (Err why) = number_of why

-- what it hands out: the value, or what was there
abbrev pub number_value : Result ℕ Refusal → ℕ → ℕ
number_value (Ok n) old = n
number_value (Err why) old = old

-- when a question about one function is refused: that about its vector, bound, upper or constant
unfoldable pub tag_refusal : List ℕ → ℕ → Answer
tag_refusal file q = file_then file (tag_answer (unit_in file) (narrow q))
