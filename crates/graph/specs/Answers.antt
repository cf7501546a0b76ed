-- What the call that draws a diagram answers, and the lent text area afterwards.
use Rattle.std.specs.Prelude.{List, ℕ, leb, length, Result}
use Rattle.unit.specs.declared.FunctionUnit.{FunctionUnit}
use Rattle.unit.specs.declared.Refusal.TheVariants.{ShortOutput}
use Rattle.unit.specs.Answers.{Answer}
use Rattle.unit.specs.Unit.{marked}
use Rattle.unit.specs.Calls.{check, and_then, tag_answer}
use Rattle.diagram.specs.Answers.{few_states, written}
use Rattle.drawing.specs.Answers.{drawn}
use Rattle.graph.specs.Dot.{diagram_text}
use Rattle.unit.specs.declared.Refusal.{Refusal}

-- the area that suffices for every diagram
abbrev pub dot_area : ℕ
dot_area = 1048576

unfoldable pub dot_refusal : FunctionUnit → ℕ → ℕ → Answer
dot_refusal u q room = and_then (tag_answer u q) (check (leb dot_area room) ShortOutput (few_states 1 (marked u) q))

unfoldable pub dot_answer : FunctionUnit → ℕ → ℕ → Result ℕ Refusal
dot_answer u q room = drawn (dot_refusal u q room) (diagram_text u q)

unfoldable pub dot_out : FunctionUnit → ℕ → List ℕ → List ℕ
dot_out u q bytes = written (dot_refusal u q (length bytes)) (diagram_text u q) bytes
