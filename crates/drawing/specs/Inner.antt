-- What the private functions write. No public contract cites this file.
use Rattle.std.specs.Prelude.{List, ◌++◌, ℕ, ◌+◌, ◌*◌, get_or}
use Rattle.words.specs.Bits.{is_set}
use Rattle.words.specs.Below.{join_below}
use Rattle.text.specs.Text.{ascii, decimal}
use Rattle.drawing.specs.Tables.{cell, mark_text, head_text}

-- The table, from the words of a function's columns; a segment is counted from 0

abbrev pub number_cell : ℕ → List ℕ
number_cell c = cell (decimal (c + 1))

abbrev pub mark_cell : List ℕ → ℕ → ℕ → List ℕ
mark_cell marks segment c = cell (mark_text (is_set (get_or marks c 0) segment))

abbrev pub line_text : List ℕ → ℕ → ℕ → List ℕ
line_text marks columns segment = cell (decimal (segment + 1)) ++ join_below columns (mark_cell marks segment) ++ ascii "\n"

-- a line has so many bytes
abbrev pub line_length : ℕ → ℕ
line_length columns = 3 * columns + 4

abbrev pub lines_text : List ℕ → ℕ → ℕ → List ℕ
lines_text marks segments columns = head_text columns ++ join_below segments (line_text marks columns)
