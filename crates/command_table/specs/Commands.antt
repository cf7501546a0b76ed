-- The commands of the console, one row for each: its name, what a designer is told to write after it, what comes after the name, and what it does.
use Rattle.std.specs.Prelude.{cond, List, [], ◌∷◌, ◌++◌, ℕ, zero, suc, length, get_or, Option, Some, None}
use Prim.Native.String.{String}
use Rattle.text.specs.Text.{ascii, same}
use Rattle.command_table.specs.declared.Act.TheVariants as Act
use Rattle.command_table.specs.declared.Ask.TheVariants as Ask
use Rattle.command_table.specs.declared.Show.TheVariants as Show
use Rattle.command_table.specs.declared.View.TheVariants as View
use Rattle.command_table.specs.declared.Issue.TheVariants as Issue
use Rattle.command_table.specs.declared.Share.TheVariants as Share
use Rattle.command_table.specs.declared.Verb.{Verb}
use Rattle.command_table.specs.declared.Form.{Form}
use Rattle.command_table.specs.declared.Entry.{Entry}

-- The table

pub record Row : Type 0 where
  pub name : String
  pub wanted : String
  pub form : Form
  pub verb : Verb

abbrev pub row : String → String → Form → Verb → Row
row name wanted form verb = record { name = name; wanted = wanted; form = form; verb = verb }

abbrev pub rows : List Row
rows =
    row "fresh" " P S C" (Form.Numbers 3) Verb.Fresh
    ∷ row "mark" " Q R C" (Form.Numbers 3) (Verb.Act Act.Mark)
    ∷ row "unmark" " Q R C" (Form.Numbers 3) (Verb.Act Act.Unmark)
    ∷ row "search" " Q" (Form.Numbers 1) (Verb.Act Act.Search)
    ∷ row "read" "" (Form.Numbers 0) (Verb.Act Act.Read)
    ∷ row "vector" " Q" (Form.Numbers 1) (Verb.Ask Ask.Vector)
    ∷ row "row" " Q R" (Form.Numbers 2) (Verb.Ask Ask.Row)
    ∷ row "states" " Q" (Form.Numbers 1) (Verb.Ask Ask.States)
    ∷ row "greedy" " Q" (Form.Numbers 1) (Verb.Ask Ask.Greedy)
    ∷ row "bound" " Q" (Form.Numbers 1) (Verb.Ask Ask.Bound)
    ∷ row "upper" " Q" (Form.Numbers 1) (Verb.Ask Ask.Upper)
    ∷ row "constant" " Q" (Form.Numbers 1) (Verb.Ask Ask.Constant)
    ∷ row "judge" " Q L L .." Form.Cycle (Verb.Ask Ask.Judge)
    ∷ row "tick" "" (Form.Numbers 0) (Verb.Act Act.Tick)
    ∷ row "start" " Q" (Form.Numbers 1) (Verb.Act Act.Start)
    ∷ row "bank" "" (Form.Numbers 0) (Verb.Act Act.Bank)
    ∷ row "load" " FILE" (Form.File 0) Verb.Load
    ∷ row "save" " FILE" (Form.File 0) (Verb.Show Show.Save)
    ∷ row "list" "" (Form.Numbers 0) (Verb.Show Show.List)
    ∷ row "table" " Q" (Form.Numbers 1) (Verb.Show Show.Table)
    ∷ row "diagram" " Q" (Form.Numbers 1) (Verb.Show Show.Diagram)
    ∷ row "loop" " Q Q .." Form.List (Verb.Show Show.Loop)
    ∷ row "record" " Q FILE" (Form.File 1) (Verb.Show Show.Record)
    ∷ row "report" " FILE" (Form.File 0) (Verb.View View.Report)
    ∷ row "ring" " FILE" (Form.File 0) (Verb.View View.Ring)
    ∷ row "simulate" " Q UNITS" (Form.Numbers 2) (Verb.Show Show.Simulate)
    ∷ row "delays" " Q M [FILE]" (Form.OptionalFile 2) (Verb.Show Show.Delays)
    ∷ row "arrive" " Q TICKET" (Form.Numbers 2) (Verb.Issue Issue.Arrive)
    ∷ row "pass" "" (Form.Numbers 0) (Verb.Issue Issue.Pass)
    ∷ row "queue" "" (Form.Numbers 0) (Verb.Issue Issue.Queue)
    ∷ row "callers" " C" (Form.Numbers 1) (Verb.Share Share.Callers)
    ∷ row "call" " I Q TICKET" (Form.Numbers 3) (Verb.Share Share.Call)
    ∷ row "turn" "" (Form.Numbers 0) (Verb.Share Share.Turn)
    ∷ row "small" " S C [NUMBER]" (Form.Optional 2) Verb.Small
    ∷ []

-- beyond the last row: no name, and nothing to write
abbrev pub no_row : Row
no_row = row "" "" (Form.Numbers 0) Verb.Fresh

unfoldable pub row_at : ℕ → Row
row_at index = get_or rows index no_row

-- the name of a command, and its usage: the name and what is told to be written after it
unfoldable pub name_at : ℕ → List ℕ
name_at index = ascii (row_at index).name

unfoldable pub usage_at : ℕ → List ℕ
usage_at index = ascii (row_at index).name ++ ascii (row_at index).wanted

-- A command looked for by its name

abbrev pub entry_at : ℕ → Entry
entry_at index = record { row = index; form = (row_at index).form; verb = (row_at index).verb }

-- the first command from an index on that has the name; so many are left
unfoldable pub among : ℕ → ℕ → List ℕ → Option Entry
among zero index word = None
among (suc n) index word = cond (same word (name_at index)) (Some (entry_at index)) (among n (suc index) word)

-- the command that has the name, if any has
unfoldable pub command_of : List ℕ → Option Entry
command_of word = among (length rows) 0 word
