-- A chart as text: the time units, the starts, and a line for each segment.
use Rattle.std.specs.Prelude.{ℕ, ◌+◌, ◌-◌, ◌%◌, not, List, ◌++◌, eqb, length, replicate}
use Rattle.words.specs.Below.{count_below, list_below, join_below}
use Rattle.text.specs.Text.{ascii, digit, decimal}
use Rattle.unit.specs.declared.Plan.{Plan}
use Rattle.unit.specs.declared.FunctionUnit.{FunctionUnit}
use Rattle.chart.specs.Cells.{none, start_cell, segment_cell}

-- a text at the left of a field of so many bytes, and at the right of one
abbrev pub at_left : ℕ → List ℕ → List ℕ
at_left n text = text ++ replicate (n - length text) 32

abbrev pub at_right : ℕ → List ℕ → List ℕ
at_right n text = replicate (n - length text) 32 ++ text

-- a line: its name in a field of 8 bytes, and a byte for each of n units
abbrev pub line : List ℕ → ℕ → (ℕ → ℕ) → List ℕ
line name n cells = at_left 8 name ++ list_below n cells

-- the last digit of the number of a unit, from 1 on
abbrev pub unit_digit : ℕ → ℕ
unit_digit i = digit ((i + 1) % 10)

-- how many of n cells have a task
abbrev pub busy : ℕ → (ℕ → ℕ) → ℕ
busy n cells = count_below n (λ i. not (eqb (cells i) none))

-- so many of n units, as a fraction
abbrev pub busy_text : ℕ → ℕ → List ℕ
busy_text count n = ascii " busy " ++ at_right (length (decimal n)) (decimal count) ++ ascii "/" ++ decimal n ++ ascii "\n"

-- a segment: its number, the task in each unit, and in how many of the units there is one
unfoldable pub segment_line : ℕ → (ℕ → ℕ) → ℕ → List ℕ
segment_line n cells s = line (decimal s) n cells ++ busy_text (busy n cells) n

-- the numbers of n units, and the row of starts
abbrev pub top_lines : ℕ → (ℕ → ℕ) → List ℕ
top_lines n starts = line (ascii "unit") n unit_digit ++ ascii "\n" ++ line (ascii "starts") n starts ++ ascii "\n"

-- a chart of n units: after them the cells of each segment
unfoldable pub chart_text : ℕ → (ℕ → ℕ) → (ℕ → ℕ → ℕ) → ℕ → List ℕ
chart_text segments starts cells n = top_lines n starts ++ join_below segments (λ s. segment_line n (cells (s + 1)) (s + 1))

-- the chart of a plan, played on a unit for n time units
abbrev pub chart_of : FunctionUnit → Plan → ℕ → List ℕ
chart_of u p n = chart_text u.segments (start_cell u p) (segment_cell u p) n
