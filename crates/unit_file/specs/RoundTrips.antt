-- The two round trips of the unit file. Both are proved (proofs/RoundTrips.antt).
use Rattle.std.specs.Prelude.{ℕ, ◌<◌, ◌≡◌, true, List, Ok}
use Rattle.unit.specs.declared.FunctionUnit.{FunctionUnit}
use Rattle.unit.specs.declared.Outcome.{Outcome}
use Rattle.unit.specs.Unit.{marked, sound_of}
use Rattle.unit.specs.Calls.{no_plan}
use Rattle.unit_file.specs.Read.{byte_in, read_answer, read_of}
use Rattle.unit_file.specs.Write.{unit_file}

-- the same counts and marks, and no plan
pub record Same (u : FunctionUnit) (back : Outcome) : Type 0 where
  pub accepted : back.answer ≡ Ok tt
  pub functions : back.unit.functions ≡ u.functions
  pub segments : back.unit.segments ≡ u.segments
  pub columns : back.unit.columns ≡ u.columns
  pub marks : marked back.unit ≡ marked u
  pub plan : back.unit.plan ≡ no_plan

-- written and read back
abbrev pub WrittenRead : FunctionUnit → Type 0
WrittenRead u = sound_of u ≡ true → Same u (read_of (unit_file u))

-- an accepted file, read and written, is the same bytes
abbrev pub ReadWritten : List ℕ → Type 0
ReadWritten file = ((i : ℕ) → byte_in file i < 256) → read_answer file ≡ Ok tt → unit_file (read_of file).unit ≡ file
