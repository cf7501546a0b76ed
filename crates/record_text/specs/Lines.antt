-- The lines that show a plan record.
use Rattle.std.specs.Prelude.{cond, List, ◌++◌, ℕ, Result, Ok, Err}
use Rattle.words.specs.Below.{list_below}
use Rattle.text.specs.Text.{ascii, digit, decimal, spaced}
use Rattle.listing.specs.Lines.{newline, refused_line}
use Rattle.plan_record.specs.Record.{ring_bit}
use Rattle.plan_record.specs.Read.{report_answer, report_list, load_answer, load_ring}
use Rattle.unit.specs.declared.Refusal.{Refusal}

-- `count 2 list 3 4`
abbrev pub list_line : ℕ → List ℕ → List ℕ
list_line K list = ascii "count " ++ decimal K ++ ascii " list" ++ spaced list ++ newline

-- a bit of a ring as a digit, and its first bits, bit 0 first
abbrev pub bit_text : List ℕ → ℕ → ℕ
bit_text ring i = digit (cond (ring_bit ring i) 1 0)

unfoldable pub bits_text : ℕ → List ℕ → List ℕ
bits_text S ring = list_below S (bit_text ring)

-- `sum 7 ring 0110111`; the spare bits are not shown
abbrev pub ring_line : ℕ → List ℕ → List ℕ
ring_line S ring = ascii "sum " ++ decimal S ++ ascii " ring " ++ bits_text S ring ++ newline

-- a line with the number that a reader shows, or `refused` and the number of the refusal
abbrev pub shown_line : Result ℕ Refusal → (ℕ → List ℕ) → List ℕ
shown_line (Ok n) line = line n
shown_line (Err why) line = refused_line why

-- what the report reads from a file, and what the loader reads
unfoldable pub report_line : List ℕ → List ℕ
report_line file = shown_line (report_answer file) (λ K. list_line K (report_list file))

unfoldable pub load_line : List ℕ → List ℕ
load_line file = shown_line (load_answer file) (λ S. ring_line S (load_ring file))
