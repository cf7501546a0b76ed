-- When a call that makes or edits a unit file is refused, and the file that it leaves. Assumes nothing.
use Rattle.std.specs.Prelude.{ℕ, List, leb, Ok}
use Rattle.words.specs.Bytes.{narrow}
use Rattle.unit.specs.declared.Refusal.TheVariants.{NotSound, ShortOutput}
use Rattle.unit.specs.Answers.{Answer}
use Rattle.unit.specs.Table.{empty}
use Rattle.unit.specs.Unit.{good_counts}
use Rattle.unit.specs.Calls.{check, spot_answer, mark_of, unmark_of}
use Rattle.unit_file.specs.File.{file_length, file_of}
use Rattle.unit_file.specs.Read.{unit_in, file_then}
use Rattle.unit_file.specs.Write.{unit_file}

-- A fresh unit

-- the counts, then the room for the file
unfoldable pub fresh_refusal : ℕ → ℕ → ℕ → ℕ → Answer
fresh_refusal f s c room =
    check (good_counts (narrow f) (narrow s) (narrow c)) NotSound
    (check (leb (file_length (narrow f) (narrow s)) room) ShortOutput (Ok tt))

-- the file of a unit without marks
abbrev pub fresh_file : ℕ → ℕ → ℕ → List ℕ
fresh_file f s c = file_of (narrow f) (narrow s) (narrow c) empty

-- Edits

-- the file, then the place of the mark
unfoldable pub edit_refusal : List ℕ → ℕ → ℕ → ℕ → Answer
edit_refusal file q s c = file_then file (spot_answer (unit_in file) (narrow q) (narrow s) (narrow c))

-- the file of the unit with one mark set, or cleared
abbrev pub marked_file : List ℕ → ℕ → ℕ → ℕ → List ℕ
marked_file file q s c = unit_file (mark_of (unit_in file) (narrow q) (narrow s) (narrow c)).unit

abbrev pub unmarked_file : List ℕ → ℕ → ℕ → ℕ → List ℕ
unmarked_file file q s c = unit_file (unmark_of (unit_in file) (narrow q) (narrow s) (narrow c)).unit
