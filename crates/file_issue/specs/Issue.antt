-- The issue controller for the unit of a unit file: its registers are the first four of the lent words. Assumes nothing.
use Rattle.std.specs.Prelude.{ℕ, List, ◌∷◌, leb, length, get_or, drop, Ok}
use Rattle.words.specs.Bytes.{narrow}
use Rattle.unit.specs.declared.Refusal.TheVariants.{ShortOutput, NotGranted}
use Rattle.unit.specs.Answers.{Answer}
use Rattle.unit.specs.Calls.{check, and_then, tag_answer}
use Rattle.unit_file.specs.Read.{unit_in, file_then}
use Rattle.controller.specs.declared.Bank.{Bank}
use Rattle.controller.specs.Bank.{granted}

-- the registers in the words, and the words with other registers
abbrev pub bank_in : List ℕ → Bank
bank_in words = record { r1 = get_or words 0 0; r2 = get_or words 1 0; r3 = get_or words 2 0; r4 = get_or words 3 0 }

abbrev pub bank_over : Bank → List ℕ → List ℕ
bank_over b words = b.r1 ∷ b.r2 ∷ b.r3 ∷ b.r4 ∷ drop 4 words

-- the file, then the number of words
unfoldable pub tick_refusal : List ℕ → ℕ → Answer
tick_refusal file room = file_then file (check (leb 4 room) ShortOutput (Ok tt))

-- the file, the tag, the number of words, then the register
unfoldable pub start_refusal : List ℕ → ℕ → List ℕ → Answer
start_refusal file q words =
    file_then file
    (and_then (tag_answer (unit_in file) (narrow q))
    (check (leb 4 (length words)) ShortOutput
    (check (granted (bank_in words) (narrow q)) NotGranted (Ok tt))))
