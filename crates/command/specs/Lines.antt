-- What a line of the console says.
use Rattle.std.specs.Prelude.{Bool, true, false, cond, ◌&&◌, ◌||◌, List, [], ◌∷◌, ◌++◌, map, ℕ, ◌+◌, ◌-◌, leb, eqb, length, get_or, take, drop, Option, Some, None, Ok, Err}
use Rattle.words.specs.Bytes.{narrow}
use Rattle.text.specs.Text.{value}
use Rattle.command_table.specs.declared.Form.{Form}
use Rattle.command_table.specs.declared.Verb.{Verb}
use Rattle.command_table.specs.Commands.{command_of}
use Rattle.command.specs.declared.Trouble.TheVariants as Trouble
use Rattle.command.specs.declared.Request.{Request}
use Rattle.command.specs.Parsed.{Parsed}
use Rattle.command_table.specs.declared.Entry.{Entry}

-- Words

-- a line without the carriage return at its end, if there is one
unfoldable pub text_of : List ℕ → List ℕ
text_of line = cond (eqb (get_or line (length line - 1) 0) 13) (take (length line - 1) line) line

-- a space or a tab
abbrev pub is_blank : ℕ → Bool
is_blank b = eqb b 32 || eqb b 9

-- a byte in front of the first part
abbrev pub onto : ℕ → List (List ℕ) → List (List ℕ)
onto b [] = (b ∷ []) ∷ []
onto b (p ∷ parts) = (b ∷ p) ∷ parts

-- the parts of a text between its blanks: between two blanks side by side stands an empty part
unfoldable pub parts_of : List ℕ → List (List ℕ)
parts_of [] = [] ∷ []
parts_of (b ∷ text) = cond (is_blank b) ([] ∷ parts_of text) (onto b (parts_of text))

-- those that are not empty
abbrev pub filled : List (List ℕ) → List (List ℕ)
filled [] = []
filled ([] ∷ parts) = filled parts
filled ((b ∷ p) ∷ parts) = (b ∷ p) ∷ filled parts

-- the words of a text, which blanks separate
unfoldable pub words_of : List ℕ → List (List ℕ)
words_of text = filled (parts_of text)

-- word i, the first being word 0; empty where there is none
abbrev pub word_at : List (List ℕ) → ℕ → List ℕ
word_at words i = get_or words i []

-- Numbers

abbrev pub is_digit : ℕ → Bool
is_digit b = leb 48 b && leb b 57

unfoldable pub digits_only : List ℕ → Bool
digits_only [] = true
digits_only (b ∷ word) = is_digit b && digits_only word

-- one or more digits that say a number up to 4294967295
unfoldable pub is_number : List ℕ → Bool
is_number word = leb 1 (length word) && (digits_only word && leb (value word) 4294967295)

-- the number that a word says, 0 where it says none
unfoldable pub number_said : List ℕ → ℕ
number_said word = cond (is_number word) (value word) 0

unfoldable pub all_numbers : List (List ℕ) → Bool
all_numbers [] = true
all_numbers (w ∷ words) = is_number w && all_numbers words

-- Commands

-- the words after the name are what the command wants
abbrev pub fits : Form → List (List ℕ) → Bool
fits (Form.Numbers k) words = eqb (length words) k && all_numbers words
fits (Form.Optional k) words = leb k (length words) && (leb (length words) (k + 1) && all_numbers words)
fits (Form.File k) words = eqb (length words) (k + 1) && all_numbers (take k words)
fits (Form.OptionalFile k) words = leb k (length words) && (leb (length words) (k + 1) && all_numbers (take k words))
fits Form.Cycle words = leb 1 (length words) && all_numbers words
fits Form.List words = all_numbers words

-- the command with the number of words after its name, and the numbers that the first three say
abbrev pub requested : Verb → List (List ℕ) → Request
requested v words = record {
  verb = v;
  count = length words;
  first = number_said (word_at words 0);
  second = number_said (word_at words 1);
  third = number_said (word_at words 2);
}

abbrev pub named : Option Entry → List (List ℕ) → Parsed
named None words = Err Trouble.NoCommand
named (Some e) words = cond (fits e.form words) (Ok (Some (requested e.verb words))) (Err (Trouble.Usage e.row))

-- a word that begins with #
abbrev pub is_comment : List ℕ → Bool
is_comment [] = false
is_comment (b ∷ word) = eqb b 35

-- no words, and words of which the first begins with #, say nothing
unfoldable pub said : List (List ℕ) → Parsed
said [] = Ok None
said (w ∷ words) = cond (is_comment w) (Ok None) (named (command_of w) words)

-- what a line says
unfoldable pub meaning : List ℕ → Parsed
meaning line = cond (leb (length line) 4096) (said (words_of (text_of line))) (Err Trouble.TooLong)

-- The rest of some lines

-- the numbers that words say, as bytes: 0 for one that no byte holds
abbrev pub narrowed : List (List ℕ) → List ℕ
narrowed words = map (λ word. narrow (number_said word)) words

-- the latencies of a cycle that is judged: the numbers after the name and the tag
unfoldable pub latencies_in : List ℕ → List ℕ
latencies_in line = narrowed (drop 2 (words_of (text_of line)))

-- the tags of a loop: the numbers after the name
unfoldable pub tags_in : List ℕ → List ℕ
tags_in line = narrowed (drop 1 (words_of (text_of line)))

-- as many as there is room for stand in front, the bytes after them are as before
abbrev pub in_front : List ℕ → List ℕ → List ℕ
in_front l bytes = take (length bytes) l ++ drop (length l) bytes

-- word i of a line, the name of its command being word 0; empty where there is none. The file of a command that names one is the last word
-- of its line, word `count` of the request.
unfoldable pub word_in : List ℕ → ℕ → List ℕ
word_in line i = word_at (words_of (text_of line)) i
