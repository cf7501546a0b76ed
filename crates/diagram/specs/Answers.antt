-- What the call for the list of states answers, and the lent words afterwards.
use Rattle.std.specs.Prelude.{ℕ, List, ◌++◌, leb, length, drop, Result, Ok, Err}
use Rattle.unit.specs.declared.FunctionUnit.{FunctionUnit}
use Rattle.unit.specs.declared.Refusal.TheVariants.{ShortOutput, TooManyStates}
use Rattle.unit.specs.Answers.{Answer}
use Rattle.unit.specs.Table.{Table}
use Rattle.unit.specs.Unit.{marked}
use Rattle.unit.specs.Calls.{check, and_then, tag_answer}
use Rattle.collision.specs.Vector.{vector_word}
use Rattle.collision.specs.Answers.{answering}
use Rattle.diagram.specs.Diagram.{width}
use Rattle.diagram.specs.States.{states}
use Rattle.unit.specs.declared.Refusal.{Refusal}

-- the states of the diagram of a function with the least interval g, if they are at most 256; else more than 256 of them
abbrev pub states_of : ℕ → Table → ℕ → List ℕ
states_of g T q = states 256 g (width (vector_word T q)) (vector_word T q)

-- refused by 7 where they are more than 256
abbrev pub few_states : ℕ → Table → ℕ → Answer
few_states g T q = check (leb (length (states_of g T q)) 256) TooManyStates (Ok tt)

unfoldable pub states_refusal : FunctionUnit → ℕ → ℕ → Answer
states_refusal u q room = and_then (tag_answer u q) (check (leb 256 room) ShortOutput (few_states 1 (marked u) q))

-- their number
unfoldable pub states_answer : FunctionUnit → ℕ → ℕ → Result ℕ Refusal
states_answer u q room = answering (states_refusal u q room) (length (states_of 1 (marked u) q))

-- the list fills the front of the lent words, the others stay as before; a refused call changes none
abbrev pub written : Answer → List ℕ → List ℕ → List ℕ
written (Ok _) l words = l ++ drop (length l) words
written (Err why) l words = words

unfoldable pub states_out : FunctionUnit → ℕ → List ℕ → List ℕ
states_out u q words = written (states_refusal u q (length words)) (states_of 1 (marked u) q) words
