-- Lines that say a command, and lines that say what was expected, worked out by hand. Assumes nothing.
use mathlib.Core.Path.{◌≡◌, refl}
use mathlib.Core.List.{[], ◌∷◌, ◌++◌}
use Rattle.words.specs.Below.{join_below}
use Rattle.text.specs.Text.{ascii, digits, decimal, spaced}
use Rattle.command_table.specs.Commands.{row_at, name_at, usage_at}
use Rattle.command.specs.declared.Trouble.TheVariants as Trouble
use Rattle.command_text.specs.Written.{file_line, trouble_text}

pub a_file : file_line 16 [] (ascii "a.unit") ≡ ascii "load a.unit"
unfolding spaced join_below name_at row_at
a_file = refl

pub file_after_a_number : file_line 22 (1 ∷ []) (ascii "plan") ≡ ascii "record 1 plan"
unfolding spaced join_below decimal digits name_at row_at
file_after_a_number = refl

pub file_after_two_numbers : file_line 26 (1 ∷ 3 ∷ []) (ascii "f") ≡ ascii "delays 1 3 f"
unfolding spaced join_below decimal digits name_at row_at
file_after_two_numbers = refl

pub usage_of_mark : trouble_text 12 (Trouble.Usage 1) ≡ ascii "line 12: expected mark Q R C" ++ (10 ∷ [])
unfolding trouble_text decimal digits usage_at row_at
usage_of_mark = refl

pub usage_of_delays : trouble_text 7 (Trouble.Usage 26) ≡ ascii "line 7: expected delays Q M [FILE]" ++ (10 ∷ [])
unfolding trouble_text decimal digits usage_at row_at
usage_of_delays = refl

pub too_long : trouble_text 3 Trouble.TooLong ≡ ascii "line 3: too long" ++ (10 ∷ [])
unfolding trouble_text decimal digits
too_long = refl
