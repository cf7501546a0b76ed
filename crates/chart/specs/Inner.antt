-- What the private functions ask, write and find. No public contract cites this file.
use Rattle.std.specs.Prelude.{ℕ, ◌+◌, ◌-◌, ◌*◌, ◌≡◌, Bool, true, cond, List, length, get_or, Ok}
use Rattle.words.specs.Bits.{is_set}
use Rattle.words.specs.Below.{join_below}
use Rattle.text.specs.Text.{decimal}
use Rattle.unit.specs.declared.Plan.{Plan}
use Rattle.unit.specs.declared.FunctionUnit.{FunctionUnit}
use Rattle.unit.specs.Calls.{tag_answer}
use Rattle.plan_record.specs.Write.{holds_cycle}
use Rattle.chart.specs.Cells.{letter, none, cell_of}
use Rattle.chart.specs.Text.{segment_line}

-- a plan that a record holds, of a tag of the unit
pub record Ready (u : FunctionUnit) (p : Plan) : Type 0 where
  pub tag : tag_answer u p.tag ≡ Ok tt
  pub holds : holds_cycle p ≡ true

-- the byte of a unit in the row of starts
abbrev pub start_byte : Bool → ℕ → ℕ
start_byte started tasks = cond started (letter tasks) none

-- The cells, from the words of a function's columns and from the row of starts in the lent bytes; a segment is counted from 0

abbrev pub marks_in : List ℕ → ℕ → ℕ → Bool
marks_in marks segment c = is_set (get_or marks (c - 1) 0) segment

abbrev pub row_in : List ℕ → ℕ → ℕ → ℕ
row_in bytes from i = get_or bytes (from + i) 0

abbrev pub cells_in : List ℕ → ℕ → List ℕ → ℕ → ℕ → ℕ → ℕ
cells_in bytes from marks columns segment i = cell_of (marks_in marks segment) (row_in bytes from) i columns

-- The lines

abbrev pub lines_text : List ℕ → ℕ → List ℕ → ℕ → ℕ → ℕ → List ℕ
lines_text bytes from marks columns n segments = join_below segments (λ s. segment_line n (cells_in bytes from marks columns s) (s + 1))

-- how many bytes they have
abbrev pub top_length : ℕ → ℕ
top_length n = 2 * n + 18

unfoldable pub line_length : ℕ → ℕ
line_length n = n + 2 * length (decimal n) + 16

-- the row of starts begins after a line and the name of the next
abbrev pub row_from : ℕ → ℕ
row_from n = n + 17
