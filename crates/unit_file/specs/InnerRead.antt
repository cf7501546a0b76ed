-- What the reader's private functions ask and find. No public contract cites this file.
use Rattle.std.specs.Prelude.{ℕ, ◌+◌, ◌-◌, ◌*◌, ◌≤◌, ◌≡◌, false, not, ◌&&◌, ◌||◌, List, ltb, eqb, length, Ok}
use Rattle.words.specs.Bits.{is_set}
use Rattle.words.specs.Below.{word_below}
use Rattle.unit.specs.declared.FunctionUnit.{FunctionUnit}
use Rattle.unit.specs.declared.Refusal.TheVariants.{BadLength, BadHeader, MarkBeyondColumns}
use Rattle.unit.specs.Answers.{Answer}
use Rattle.unit.specs.Table.{Table}
use Rattle.unit.specs.Calls.{check, unit_of}
use Rattle.unit_file.specs.File.{offset_of, file_length}
use Rattle.unit_file.specs.Read.{functions_in, segments_in, columns_in, word32, file_table, good_header, marks_beyond}

-- a file whose counts are in their ranges
pub record Counted (file : List ℕ) : Type 0 where
  pub long : 4 ≤ length file
  pub functions1 : 1 ≤ functions_in file
  pub functions4 : functions_in file ≤ 4
  pub segments1 : 1 ≤ segments_in file
  pub segments16 : segments_in file ≤ 16
  pub columns1 : 1 ≤ columns_in file
  pub columns32 : columns_in file ≤ 32

-- and that is as long as they say
pub record Whole (file : List ℕ) : Type 0 where
  pub counts : Counted file
  pub size : length file ≡ file_length (functions_in file) (segments_in file)

-- and has no mark beyond its columns
pub record Clean (file : List ℕ) : Type 0 where
  pub whole : Whole file
  pub within : marks_beyond file ≡ false

-- what is tried of a file whose counts are good
unfoldable pub body_answer : List ℕ → Answer
body_answer file =
    check (eqb (length file) (file_length (functions_in file) (segments_in file))) BadLength
    (check (good_header file) BadHeader
    (check (not (marks_beyond file)) MarkBeyondColumns (Ok tt)))

-- a tag of the file
pub record TagIn (file : List ℕ) (k : ℕ) : Type 0 where
  pub least : 1 ≤ k
  pub most : k ≤ functions_in file

-- a column of the file
pub record ColumnIn (file : List ℕ) (c : ℕ) : Type 0 where
  pub least : 1 ≤ c
  pub most : c ≤ columns_in file

-- the marks of tag k in column c, bit r - 1 for segment r
unfoldable pub column_word : List ℕ → ℕ → ℕ → ℕ
column_word file k c =
    word_below (segments_in file) (λ i. is_set (word32 file (offset_of (functions_in file) (segments_in file) k + 4 * i)) (c - 1))

-- the file's table up to, and not with, column c of tag k
unfoldable pub table_before : List ℕ → ℕ → ℕ → Table
table_before file k c x y z = file_table file x y z && (ltb x k || (eqb x k && ltb z c))

-- the unit with these marks
abbrev pub unit_before : List ℕ → ℕ → ℕ → FunctionUnit
unit_before file k c = unit_of (functions_in file) (segments_in file) (columns_in file) (table_before file k c)
