-- What a file says, and what reading it answers.
use Rattle.std.specs.Prelude.{ℕ, ◌+◌, ◌-◌, ◌*◌, Bool, not, ◌&&◌, List, leb, eqb, length, get_or, Ok}
use Rattle.words.specs.Bits.{is_set}
use Rattle.words.specs.Below.{some_below}
use Rattle.unit.specs.declared.FunctionUnit.{FunctionUnit}
use Rattle.unit.specs.declared.Outcome.{Outcome}
use Rattle.unit.specs.declared.Refusal.TheVariants.{NotSound, BadLength, BadHeader, MarkBeyondColumns}
use Rattle.unit.specs.Answers.{Answer}
use Rattle.unit.specs.Table.{Table}
use Rattle.unit.specs.Unit.{inside, marked, good_counts}
use Rattle.unit.specs.Calls.{check, and_then, outcome, blank, unit_of}
use Rattle.unit_file.specs.File.{offset_of, file_length}

-- What stands in the bytes

abbrev pub byte_in : List ℕ → ℕ → ℕ
byte_in file i = get_or file i 0

abbrev pub word16 : List ℕ → ℕ → ℕ
word16 file i = byte_in file i + 256 * byte_in file (i + 1)

abbrev pub word32 : List ℕ → ℕ → ℕ
word32 file i = word16 file i + 65536 * word16 file (i + 2)

-- the three counts
abbrev pub functions_in : List ℕ → ℕ
functions_in file = byte_in file 0

abbrev pub segments_in : List ℕ → ℕ
segments_in file = byte_in file 1

abbrev pub columns_in : List ℕ → ℕ
columns_in file = byte_in file 2

-- where the word of segment r of tag k stands
abbrev pub word_place : List ℕ → ℕ → ℕ → ℕ
word_place file k r = offset_of (functions_in file) (segments_in file) k + 4 * (r - 1)

-- the table of marks
unfoldable pub file_table : List ℕ → Table
file_table file k r c =
    inside k (functions_in file)
    && (inside r (segments_in file)
    && (inside c 32 && is_set (word32 file (word_place file k r)) (c - 1)))

-- Tests

-- byte 3 is zero, and each offset says where its table begins
unfoldable pub good_header : List ℕ → Bool
good_header file =
    eqb (byte_in file 3) 0
    && not (some_below (functions_in file) (λ i. not (eqb (word16 file (4 + 2 * i)) (offset_of (functions_in file) (segments_in file) (i + 1)))))

-- some mark lies beyond the columns
unfoldable pub marks_beyond : List ℕ → Bool
marks_beyond file = some_below 5 (λ k. some_below 17 (λ r. some_below 33 (λ c. file_table file k r c && not (leb c (columns_in file)))))

-- tried in the order 11 (under 4 bytes), 1, 11, 12, 13
unfoldable pub read_answer : List ℕ → Answer
read_answer file =
    check (leb 4 (length file)) BadLength
    (check (good_counts (functions_in file) (segments_in file) (columns_in file)) NotSound
    (check (eqb (length file) (file_length (functions_in file) (segments_in file))) BadLength
    (check (good_header file) BadHeader
    (check (not (marks_beyond file)) MarkBeyondColumns (Ok tt)))))

-- the unit, without plan; where the file is refused the unit of counts 0 0 0, which every call refuses
unfoldable pub read_of : List ℕ → Outcome
read_of file = outcome (read_answer file) (blank 0 0 0) (unit_of (functions_in file) (segments_in file) (columns_in file) (file_table file))

-- What a call on a lent file goes by

-- the unit that the file says, and its table
abbrev pub unit_in : List ℕ → FunctionUnit
unit_in file = (read_of file).unit

abbrev pub table_in : List ℕ → Table
table_in file = marked (unit_in file)

-- the file is tried first
abbrev pub file_then : List ℕ → Answer → Answer
file_then file next = and_then (read_answer file) next
