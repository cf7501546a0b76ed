-- Lines and what they say, worked out by hand. Assumes nothing.
use Rattle.std.proofs.Common.{Ok, Err, Some, None}
use mathlib.Core.Path.{◌≡◌, refl}
use mathlib.Core.Bool.{true, false}
use mathlib.Core.List.{[], ◌∷◌}
use Prim.Native.Nat.{ℕ}
use Rattle.text.specs.Text.{ascii, value, same}
use Rattle.command_table.specs.declared.Act.TheVariants as Act
use Rattle.command_table.specs.declared.Ask.TheVariants as Ask
use Rattle.command_table.specs.declared.Show.TheVariants as Show
use Rattle.command_table.specs.declared.View.TheVariants as View
use Rattle.command_table.specs.declared.Verb.{Verb}
use Rattle.command_table.specs.declared.Form.TheVariants as Form
use Rattle.command_table.specs.Commands.{row_at, name_at, among, command_of}
use Rattle.command.specs.declared.Trouble.TheVariants as Trouble
use Rattle.command.specs.Parsed.{Parsed}
use Rattle.command.specs.Lines.{text_of, parts_of, words_of, digits_only, is_number, number_said, all_numbers, fits, said, meaning, latencies_in, tags_in, word_in}

abbrev command : Verb → ℕ → ℕ → ℕ → ℕ → Parsed
command v count first second third = Ok (Some (record { verb = v; count = count; first = first; second = second; third = third }))

pub three_numbers : meaning (ascii "mark 1 2 3") ≡ command (Verb.Act Act.Mark) 3 1 2 3
unfolding meaning text_of said words_of parts_of command_of among same name_at row_at all_numbers is_number digits_only number_said value
three_numbers = refl

pub many_blanks : meaning (ascii "  mark\t1   2 \t 3 ") ≡ command (Verb.Act Act.Mark) 3 1 2 3
unfolding meaning text_of said words_of parts_of command_of among same name_at row_at all_numbers is_number digits_only number_said value
many_blanks = refl

pub return_at_the_end : meaning (ascii "mark 1 2 3\r") ≡ command (Verb.Act Act.Mark) 3 1 2 3
unfolding meaning text_of said words_of parts_of command_of among same name_at row_at all_numbers is_number digits_only number_said value
return_at_the_end = refl

pub blank_before_the_return : meaning (ascii "read \r") ≡ command (Verb.Act Act.Read) 0 0 0 0
unfolding meaning text_of said words_of parts_of command_of among same name_at row_at all_numbers is_number digits_only number_said value
blank_before_the_return = refl

pub return_inside : meaning (ascii "search 1\r ") ≡ Err (Trouble.Usage 3)
unfolding meaning text_of said words_of parts_of command_of among same name_at row_at all_numbers is_number digits_only number_said value
return_inside = refl

pub two_returns : meaning (ascii "search 1\r\r") ≡ Err (Trouble.Usage 3)
unfolding meaning text_of said words_of parts_of command_of among same name_at row_at all_numbers is_number digits_only number_said value
two_returns = refl

pub a_comment : meaning (ascii "#x") ≡ Ok None
unfolding meaning text_of said words_of parts_of command_of among same name_at row_at all_numbers is_number digits_only number_said value
a_comment = refl

pub comment_after_blanks : meaning (ascii " \t # x") ≡ Ok None
unfolding meaning text_of said words_of parts_of command_of among same name_at row_at all_numbers is_number digits_only number_said value
comment_after_blanks = refl

pub empty_line : meaning (ascii "") ≡ Ok None
unfolding meaning text_of said words_of parts_of command_of among same name_at row_at all_numbers is_number digits_only number_said value
empty_line = refl

pub only_blanks : meaning (ascii " \t \r") ≡ Ok None
unfolding meaning text_of said words_of parts_of command_of among same name_at row_at all_numbers is_number digits_only number_said value
only_blanks = refl

pub above_a_word : meaning (ascii "search 4294967296") ≡ Err (Trouble.Usage 3)
unfolding meaning text_of said words_of parts_of command_of among same name_at row_at all_numbers is_number digits_only number_said value
above_a_word = refl

pub largest_word : meaning (ascii "search 4294967295") ≡ command (Verb.Act Act.Search) 1 4294967295 0 0
unfolding meaning text_of said words_of parts_of command_of among same name_at row_at all_numbers is_number digits_only number_said value
largest_word = refl

pub a_tag_alone : meaning (ascii "judge 1") ≡ command (Verb.Ask Ask.Judge) 1 1 0 0
unfolding meaning text_of said words_of parts_of command_of among same name_at row_at all_numbers is_number digits_only number_said value
a_tag_alone = refl

pub a_cycle : meaning (ascii "judge 0 3 4 7") ≡ command (Verb.Ask Ask.Judge) 4 0 3 4
unfolding meaning text_of said words_of parts_of command_of among same name_at row_at all_numbers is_number digits_only number_said value
a_cycle = refl

pub no_tag : meaning (ascii "judge") ≡ Err (Trouble.Usage 12)
unfolding meaning text_of said words_of parts_of command_of among same name_at row_at all_numbers is_number digits_only number_said value
no_tag = refl

pub no_words : meaning (ascii "read") ≡ command (Verb.Act Act.Read) 0 0 0 0
unfolding meaning text_of said words_of parts_of command_of among same name_at row_at all_numbers is_number digits_only number_said value
no_words = refl

pub no_command : meaning (ascii "nonsense") ≡ Err Trouble.NoCommand
unfolding meaning text_of said words_of parts_of command_of among same name_at row_at all_numbers is_number digits_only number_said value
no_command = refl

pub a_file : meaning (ascii "load units/a.unit") ≡ command Verb.Load 1 0 0 0
unfolding meaning text_of said words_of parts_of command_of among same name_at row_at all_numbers is_number digits_only number_said value
a_file = refl

pub two_files : meaning (ascii "save a b") ≡ Err (Trouble.Usage 17)
unfolding meaning text_of said words_of parts_of command_of among same name_at row_at all_numbers is_number digits_only number_said value
two_files = refl

pub a_record : meaning (ascii "record 1 plan") ≡ command (Verb.Show Show.Record) 2 1 0 0
unfolding meaning text_of said words_of parts_of command_of among same name_at row_at all_numbers is_number digits_only number_said value
a_record = refl

pub record_of_a_letter : meaning (ascii "record x plan") ≡ Err (Trouble.Usage 22)
unfolding meaning text_of said words_of parts_of command_of among same name_at row_at all_numbers is_number digits_only number_said value
record_of_a_letter = refl

pub file_of_digits : meaning (ascii "record 1 2") ≡ command (Verb.Show Show.Record) 2 1 2 0
unfolding meaning text_of said words_of parts_of command_of among same name_at row_at all_numbers is_number digits_only number_said value
file_of_digits = refl

pub no_file : meaning (ascii "record 1") ≡ Err (Trouble.Usage 22)
unfolding meaning text_of said words_of parts_of command_of among same name_at row_at all_numbers is_number digits_only number_said value
no_file = refl

pub a_report : meaning (ascii "report plan") ≡ command (Verb.View View.Report) 1 0 0 0
unfolding meaning text_of said words_of parts_of command_of among same name_at row_at all_numbers is_number digits_only number_said value
a_report = refl

pub a_ring : meaning (ascii "ring plan") ≡ command (Verb.View View.Ring) 1 0 0 0
unfolding meaning text_of said words_of parts_of command_of among same name_at row_at all_numbers is_number digits_only number_said value
a_ring = refl

pub no_digits : meaning (ascii "row 1 x") ≡ Err (Trouble.Usage 6)
unfolding meaning text_of said words_of parts_of command_of among same name_at row_at all_numbers is_number digits_only number_said value
no_digits = refl

pub a_loop : meaning (ascii "loop 1 2 1 300") ≡ command (Verb.Show Show.Loop) 4 1 2 1
unfolding meaning text_of said words_of parts_of command_of among same name_at row_at all_numbers is_number digits_only number_said value
a_loop = refl

pub no_tags : meaning (ascii "loop") ≡ command (Verb.Show Show.Loop) 0 0 0 0
unfolding meaning text_of said words_of parts_of command_of among same name_at row_at all_numbers is_number digits_only number_said value
no_tags = refl

pub a_tag_in_letters : meaning (ascii "loop 1 b") ≡ Err (Trouble.Usage 21)
unfolding meaning text_of said words_of parts_of command_of among same name_at row_at all_numbers is_number digits_only number_said value
a_tag_in_letters = refl

pub a_simulation : meaning (ascii "simulate 1 21") ≡ command (Verb.Show Show.Simulate) 2 1 21 0
unfolding meaning text_of said words_of parts_of command_of among same name_at row_at all_numbers is_number digits_only number_said value
a_simulation = refl

pub no_units : meaning (ascii "simulate 1") ≡ Err (Trouble.Usage 25)
unfolding meaning text_of said words_of parts_of command_of among same name_at row_at all_numbers is_number digits_only number_said value
no_units = refl

pub delays_without_a_file : meaning (ascii "delays 1 3") ≡ command (Verb.Show Show.Delays) 2 1 3 0
unfolding meaning text_of said words_of parts_of command_of among same name_at row_at all_numbers is_number digits_only number_said value
delays_without_a_file = refl

pub delays_with_a_file : meaning (ascii "delays 1 3 f") ≡ command (Verb.Show Show.Delays) 3 1 3 0
unfolding meaning text_of said words_of parts_of command_of among same name_at row_at all_numbers is_number digits_only number_said value
delays_with_a_file = refl

pub delays_with_a_file_of_digits : meaning (ascii "delays 1 3 8") ≡ command (Verb.Show Show.Delays) 3 1 3 8
unfolding meaning text_of said words_of parts_of command_of among same name_at row_at all_numbers is_number digits_only number_said value
delays_with_a_file_of_digits = refl

pub delays_of_a_tag_alone : meaning (ascii "delays 1") ≡ Err (Trouble.Usage 26)
unfolding meaning text_of said words_of parts_of command_of among same name_at row_at all_numbers is_number digits_only number_said value
delays_of_a_tag_alone = refl

pub delays_of_a_letter : meaning (ascii "delays 1 x") ≡ Err (Trouble.Usage 26)
unfolding meaning text_of said words_of parts_of command_of among same name_at row_at all_numbers is_number digits_only number_said value
delays_of_a_letter = refl

pub delays_with_two_files : meaning (ascii "delays 1 3 f g") ≡ Err (Trouble.Usage 26)
unfolding meaning text_of said words_of parts_of command_of among same name_at row_at all_numbers is_number digits_only number_said value
delays_with_two_files = refl

pub its_latencies : latencies_in (ascii "judge 0  3 4 256 7\r") ≡ 3 ∷ 4 ∷ 0 ∷ 7 ∷ []
unfolding latencies_in text_of words_of parts_of number_said is_number digits_only value
its_latencies = refl

pub its_tags : tags_in (ascii "loop 1  2 256 1\r") ≡ 1 ∷ 2 ∷ 0 ∷ 1 ∷ []
unfolding tags_in text_of words_of parts_of number_said is_number digits_only value
its_tags = refl

pub its_file : word_in (ascii " load  units/a.unit \r") 1 ≡ ascii "units/a.unit"
unfolding word_in text_of words_of parts_of
its_file = refl

pub file_after_a_number : word_in (ascii " record  1  plans/a \r") 2 ≡ ascii "plans/a"
unfolding word_in text_of words_of parts_of
file_after_a_number = refl

pub no_such_word : word_in (ascii " record  1  plans/a \r") 3 ≡ []
unfolding word_in text_of words_of parts_of
no_such_word = refl

-- a last number that may be left out
pub left_out : fits (Form.Optional 1) (ascii "7" ∷ []) ≡ true
unfolding all_numbers is_number digits_only value
left_out = refl

pub given : fits (Form.Optional 1) (ascii "7" ∷ ascii "2" ∷ []) ≡ true
unfolding all_numbers is_number digits_only value
given = refl

pub one_too_many : fits (Form.Optional 1) (ascii "7" ∷ ascii "2" ∷ ascii "2" ∷ []) ≡ false
unfolding all_numbers is_number digits_only value
one_too_many = refl

pub one_too_few : fits (Form.Optional 1) [] ≡ false
unfolding all_numbers is_number digits_only value
one_too_few = refl
