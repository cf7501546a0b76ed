-- Where there is room, only 1, 2, 19, 20 and 21 refuse, and the file that is written is read as the unit with delays. Proved in proofs/Claims.antt.
use Rattle.std.specs.Prelude.{◌≡◌, List, ℕ, ◌≤◌, length, take, Ok}
use Rattle.unit.specs.declared.FunctionUnit.{FunctionUnit}
use Rattle.unit_file.specs.File.{file_length}
use Rattle.unit_file.specs.Read.{read_of}
use Rattle.delays.specs.Delays.{delays_answer, delays_of}
use Rattle.delay_text.specs.Shown.{delayed_table_refusal, delayed_file_refusal, delayed_file_out}

-- 1,700 bytes have room for every table
abbrev pub TableFits : Type 0
TableFits = (u : FunctionUnit) (q m room : ℕ) → 1700 ≤ room → delayed_table_refusal u q m room ≡ delays_answer u q m

-- 70 bytes have room for every file of a one-function unit
abbrev pub FileFits : Type 0
FileFits = (u : FunctionUnit) (q m room : ℕ) → 70 ≤ room → delayed_file_refusal u q m room ≡ delays_answer u q m

-- the front that is written, read as a unit file, is what the call makes
abbrev pub SavedRead : Type 0
SavedRead =
    (u : FunctionUnit) (q m : ℕ) (bytes : List ℕ) → 70 ≤ length bytes → delays_answer u q m ≡ Ok tt
    → read_of (take (file_length 1 u.segments) (delayed_file_out u q m bytes)) ≡ delays_of u q m
