-- The line that says a command, and the line that says what was expected.
use Rattle.std.specs.Prelude.{Bool, true, false, ◌&&◌, List, [], ◌∷◌, ◌++◌, ℕ, ◌+◌, leb, eqb, length}
use Rattle.text.specs.Text.{ascii, decimal, spaced}
use Rattle.command_table.specs.declared.Form.{Form}
use Rattle.command_table.specs.declared.Form.TheVariants as Form
use Rattle.command_table.specs.Commands.{name_at, usage_at}
use Rattle.command.specs.declared.Trouble.{Trouble}
use Rattle.command.specs.declared.Trouble.TheVariants as Trouble

-- The line that says the command of a row

-- the name and the numbers in decimal, each after a space
abbrev pub number_line : ℕ → List ℕ → List ℕ
number_line row numbers = name_at row ++ spaced numbers

-- the name, and after it the numbers in decimal and the file, each after a space
abbrev pub file_line : ℕ → List ℕ → List ℕ → List ℕ
file_line row numbers file = name_at row ++ (spaced numbers ++ (32 ∷ file))

-- the numbers alone are what the command wants
abbrev pub suits : Form → List ℕ → Bool
suits (Form.Numbers k) numbers = eqb (length numbers) k
suits (Form.Optional k) numbers = leb k (length numbers) && leb (length numbers) (k + 1)
suits (Form.File k) numbers = false
suits (Form.OptionalFile k) numbers = eqb (length numbers) k
suits Form.Cycle numbers = leb 1 (length numbers)
suits Form.List numbers = true

-- the numbers and a file after them are what the command wants
abbrev pub suits_file : Form → List ℕ → Bool
suits_file (Form.Numbers k) numbers = false
suits_file (Form.Optional k) numbers = false
suits_file (Form.File k) numbers = eqb (length numbers) k
suits_file (Form.OptionalFile k) numbers = eqb (length numbers) k
suits_file Form.Cycle numbers = false
suits_file Form.List numbers = false

-- What was expected

abbrev pub expected : Trouble → List ℕ
expected Trouble.TooLong = ascii "too long"
expected Trouble.NoCommand = ascii "expected a command"
expected (Trouble.Usage row) = ascii "expected " ++ usage_at row

-- `line N: ` and what was expected
unfoldable pub trouble_text : ℕ → Trouble → List ℕ
trouble_text n trouble = ascii "line " ++ (decimal n ++ (ascii ": " ++ (expected trouble ++ (10 ∷ []))))
