-- What the call that draws answers, and the lent text area afterwards.
use Rattle.std.specs.Prelude.{List, ℕ, leb, length, Result, Ok, Err}
use Rattle.unit.specs.declared.FunctionUnit.{FunctionUnit}
use Rattle.unit.specs.declared.Refusal.TheVariants.{ShortOutput}
use Rattle.unit.specs.Answers.{Answer}
use Rattle.unit.specs.Unit.{marked}
use Rattle.unit.specs.Calls.{check, and_then, tag_answer}
use Rattle.diagram.specs.Answers.{written}
use Rattle.drawing.specs.Tables.{table_text}
use Rattle.unit.specs.declared.Refusal.{Refusal}

-- the length of the text, where nothing is refused
abbrev pub drawn : Answer → List ℕ → Result ℕ Refusal
drawn (Ok _) text = Ok (length text)
drawn (Err why) text = Err why

-- The reservation table

abbrev pub unit_table : FunctionUnit → ℕ → List ℕ
unit_table u q = table_text (marked u) q u.segments u.columns

-- an area that is too short for the text is refused before a byte is written
unfoldable pub table_refusal : FunctionUnit → ℕ → ℕ → Answer
table_refusal u q room = and_then (tag_answer u q) (check (leb (length (unit_table u q)) room) ShortOutput (Ok tt))

unfoldable pub table_answer : FunctionUnit → ℕ → ℕ → Result ℕ Refusal
table_answer u q room = drawn (table_refusal u q room) (unit_table u q)

-- the text fills the front of the lent bytes, the others stay as before; a refused call changes none
unfoldable pub table_out : FunctionUnit → ℕ → List ℕ → List ℕ
table_out u q bytes = written (table_refusal u q (length bytes)) (unit_table u q) bytes
