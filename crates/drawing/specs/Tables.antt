-- The reservation table of a function as text: the numbers of the columns, and a row for each segment.
use Rattle.std.specs.Prelude.{Bool, cond, List, [], ◌++◌, ℕ, ◌+◌, ◌-◌, length, replicate}
use Rattle.words.specs.Below.{join_below}
use Rattle.text.specs.Text.{ascii, decimal}
use Rattle.unit.specs.Table.{Table}

-- a text of up to three bytes at the right of a cell three bytes wide
abbrev pub cell : List ℕ → List ℕ
cell text = replicate (3 - length text) 32 ++ text

-- `x` for a mark and `.` for none
abbrev pub mark_text : Bool → List ℕ
mark_text marked = cond marked (ascii "x") (ascii ".")

-- an empty cell, and the numbers of the columns
unfoldable pub head_text : ℕ → List ℕ
head_text columns = cell [] ++ join_below columns (λ c. cell (decimal (c + 1))) ++ ascii "\n"

-- the number of a segment, and its marks in each column
unfoldable pub row_text : Table → ℕ → ℕ → ℕ → List ℕ
row_text T q columns s = cell (decimal s) ++ join_below columns (λ c. cell (mark_text (T q s (c + 1)))) ++ ascii "\n"

unfoldable pub table_text : Table → ℕ → ℕ → ℕ → List ℕ
table_text T q segments columns = head_text columns ++ join_below segments (λ s. row_text T q columns (s + 1))
