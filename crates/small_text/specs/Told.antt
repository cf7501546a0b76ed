-- What a designer who asks for small tables is told, and what the session is then.
use Rattle.std.specs.Prelude.{ℕ, ◌≤◌, ◌<◌, ◌≡◌, List, ◌++◌, Result, Ok, Err}
use Prim.Native.String.{String}
use Rattle.text.specs.Text.{ascii, decimal}
use Rattle.unit.specs.declared.Outcome.{Outcome}
use Rattle.listing.specs.Lines.{newline, refused_line}
use Rattle.command.specs.declared.Request.{Request}
use Rattle.session.specs.declared.Session.{Session}
use Rattle.session.specs.declared.Reply.{Reply}
use Rattle.session.specs.Sessions.{one, two, Line, Made}
use Rattle.table_numbers.specs.Tables.{small_table_of}
use Rattle.table_totals.specs.declared.SizeTotals.{SizeTotals}
use Rattle.table_totals.specs.Totals.{AnswersTotals}
use Rattle.unit.specs.declared.Refusal.{Refusal}

-- Lines

-- a word and the number after it
abbrev pub labelled : String → ℕ → List ℕ
labelled word n = ascii word ++ decimal n

-- how many tables, how many of them at the bound, the largest average, and the first number that has it
abbrev pub totals_line : SizeTotals → List ℕ
totals_line t =
    labelled "tables " t.tables ++ labelled " at bound " t.reaching ++ labelled " largest " t.numerator ++ labelled "/" t.denominator
    ++ labelled " first " t.first ++ newline

-- or `refused` and the number
abbrev pub totalled_line : Result SizeTotals Refusal → List ℕ
totalled_line (Ok t) = totals_line t
totalled_line (Err why) = refused_line why

-- The command

-- two numbers are a size, whose totals are told; the session stays as it is
pub record TotalsTold (s : Session) (r : Request) (before after : List ℕ) (t : Reply) : Type 0 where
  pub answer : Result SizeTotals Refusal
  pub answers : AnswersTotals (one r) (two r) 16000 answer
  pub line : Line (totalled_line answer) before after t.end
  pub next : t.session ≡ s

-- a third is the number of a table
abbrev pub table_asked : Request → Outcome
table_asked r = small_table_of (one r) (two r) r.third

-- which is taken as the unit, as a fresh one is
pub record SmallOn (s : Session) (r : Request) (before after : List ℕ) (t : Reply) : Type 0 where
  pub totals : r.count < 3 → TotalsTold s r before after t
  pub table : 3 ≤ r.count → Made s (table_asked r) before after t
