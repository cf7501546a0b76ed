-- The listing of a unit and of a unit file: what the calls answer, and the lent text area afterwards.
use Rattle.std.specs.Prelude.{ℕ, ◌≤◌, ◌≡◌, true, List, leb, length, Result, Ok, Err}
use Rattle.unit.specs.declared.FunctionUnit.{FunctionUnit}
use Rattle.unit.specs.declared.Refusal.TheVariants.{NotSound, ShortOutput}
use Rattle.unit.specs.Answers.{Answer}
use Rattle.unit.specs.Table.{Table}
use Rattle.unit.specs.Unit.{inside, marked, sound_of}
use Rattle.unit.specs.Calls.{check}
use Rattle.unit_file.specs.Read.{functions_in, file_table, read_answer}
use Rattle.diagram.specs.Answers.{states_of, written}
use Rattle.planner.specs.Plans.{Best}
use Rattle.listing.specs.Lines.{refused_line, unit_text}
use Rattle.unit.specs.declared.Refusal.{Refusal}

-- Text in a lent area

-- an area that is too short is refused before a byte is written
abbrev pub room_answer : List ℕ → ℕ → Answer
room_answer text room = check (leb (length text) room) ShortOutput (Ok tt)

-- the length of the text
abbrev pub listed : Answer → ℕ → Result ℕ Refusal
listed (Ok _) n = Ok n
listed (Err why) n = Err why

-- the text stands in front of the area, the bytes after it are as before; a refused call changes none
pub record Printed (refusal : Answer) (text before after : List ℕ) (answer : Result ℕ Refusal) : Type 0 where
  pub says : answer ≡ listed refusal (length text)
  pub area : after ≡ written refusal text before

-- The best cycles

-- for each function whose states are not too many a best cycle. Free is which of several cycles of least average.
abbrev pub Bests : Table → ℕ → (ℕ → List ℕ) → Type 0
Bests T functions best = (q : ℕ) → inside q functions ≡ true → leb (length (states_of 1 T q)) 256 ≡ true → Best 1 T q (best q)

-- the area that always suffices
abbrev pub area : ℕ
area = 8888

-- The calls

unfoldable pub unit_refusal : FunctionUnit → List ℕ → ℕ → Answer
unit_refusal u text room = check (sound_of u) NotSound (room_answer text room)

pub record UnitListed (u : FunctionUnit) (before after : List ℕ) (answer : Result ℕ Refusal) : Type 0 where
  pub best : ℕ → List ℕ
  pub bests : sound_of u ≡ true → Bests (marked u) u.functions best
  pub suffices : sound_of u ≡ true → length (unit_text (marked u) u.functions best) ≤ area
  pub printed :
      Printed (unit_refusal u (unit_text (marked u) u.functions best) (length before)) (unit_text (marked u) u.functions best) before after answer

-- a refused file has one line
abbrev pub file_text : Answer → List ℕ → (ℕ → List ℕ) → List ℕ
file_text (Ok _) file best = unit_text (file_table file) (functions_in file) best
file_text (Err why) file best = refused_line why

pub record FileListed (file before after : List ℕ) (answer : Result ℕ Refusal) : Type 0 where
  pub best : ℕ → List ℕ
  pub bests : read_answer file ≡ Ok tt → Bests (file_table file) (functions_in file) best
  pub suffices : length (file_text (read_answer file) file best) ≤ area
  pub printed :
      Printed (room_answer (file_text (read_answer file) file best) (length before)) (file_text (read_answer file) file best) before after answer
