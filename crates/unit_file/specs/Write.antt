-- What writing a unit answers, and the lent bytes afterwards.
use Rattle.std.specs.Prelude.{ℕ, List, ◌++◌, leb, length, drop, Result, Ok, Err}
use Rattle.unit.specs.declared.FunctionUnit.{FunctionUnit}
use Rattle.unit.specs.declared.Refusal.TheVariants.{NotSound, ShortOutput}
use Rattle.unit.specs.Answers.{Answer}
use Rattle.unit.specs.Unit.{marked, sound_of}
use Rattle.unit.specs.Calls.{check}
use Rattle.unit_file.specs.File.{file_length, file_of}
use Rattle.unit.specs.declared.Refusal.{Refusal}

-- a unit's file; a plan is not written
abbrev pub unit_file : FunctionUnit → List ℕ
unit_file u = file_of u.functions u.segments u.columns (marked u)

-- 1, then 6 where the lent bytes are fewer than the file's
unfoldable pub write_refusal : FunctionUnit → ℕ → Answer
write_refusal u room =
    check (sound_of u) NotSound
    (check (leb (file_length u.functions u.segments) room) ShortOutput (Ok tt))

-- the file's length
abbrev pub length_answer : Answer → ℕ → Result ℕ Refusal
length_answer (Ok _) n = Ok n
length_answer (Err why) n = Err why

unfoldable pub write_answer : FunctionUnit → ℕ → Result ℕ Refusal
write_answer u room = length_answer (write_refusal u room) (file_length u.functions u.segments)

-- the file fills the front of the lent bytes, the others stay as before; a refused call changes none
abbrev pub file_in_front : Answer → List ℕ → List ℕ → List ℕ
file_in_front (Ok _) file bytes = file ++ drop (length file) bytes
file_in_front (Err why) file bytes = bytes

unfoldable pub write_out : FunctionUnit → List ℕ → List ℕ
write_out u bytes = file_in_front (write_refusal u (length bytes)) (unit_file u) bytes
