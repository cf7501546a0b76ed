-- What the private functions find. No public contract cites this file.
use Rattle.std.specs.Prelude.{◌≡◌, Bool, false, cond, ◌&&◌, List, ℕ, ◌+◌, ◌-◌, ◌≤◌, ◌<◌, leb, eqb, length, get_or, take, drop, Option, Some, None}
use Rattle.text.specs.Text.{value}
use Rattle.command_table.specs.declared.Form.{Form}
use Rattle.command.specs.declared.scan.Scan.{Scan}
use Rattle.command.specs.Lines.{text_of, is_blank, parts_of, words_of, word_at, is_number, number_said, all_numbers}

-- the bytes of a text from an index up to the next blank
abbrev pub word_from : List ℕ → ℕ → List ℕ
word_from text at = word_at (parts_of (drop at text)) 0

-- the words of a text from an index on
abbrev pub words_from : List ℕ → ℕ → List (List ℕ)
words_from text at = words_of (drop at text)

-- where a line's text ends
pub record TextEnd (line : List ℕ) (end : ℕ) : Type 0 where
  pub inside : end ≤ length line
  pub text : take end line ≡ text_of line

-- the next word begins at an index, or there is none and it is the end
pub record Begins (text : List ℕ) (from at : ℕ) : Type 0 where
  pub after : from ≤ at
  pub inside : at ≤ length text
  pub same : words_from text at ≡ words_from text from
  pub here : at < length text → is_blank (get_or text at 0) ≡ false

-- so many words from an index on, or all where there are fewer, end at another
pub record Passes (text : List ℕ) (from count end : ℕ) : Type 0 where
  pub inside : end ≤ length text
  pub rest : words_from text end ≡ drop count (words_from text from)

-- the number that a word says, if it says one
abbrev pub numeral : List ℕ → Option ℕ
numeral word = cond (is_number word) (Some (value word)) None

-- one number more
abbrev pub noted : Scan → Bool → ℕ → Scan
noted s allGood number = record {
  good = allGood;
  front = s.good;
  count = s.count + 1;
  first = cond (eqb s.count 0) number s.first;
  second = cond (eqb s.count 1) number s.second;
  third = cond (eqb s.count 2) number s.third;
}

-- one word more
abbrev pub with_word : Scan → List ℕ → Scan
with_word s word = noted s (s.good && is_number word) (number_said word)

-- the words in front of the last
abbrev pub before_last : List (List ℕ) → List (List ℕ)
before_last words = take (length words - 1) words

-- whether all words are numbers, whether those in front of the last are, how many they are, and the numbers that the first three say
abbrev pub scanned : List (List ℕ) → Scan
scanned words = record {
  good = all_numbers words;
  front = all_numbers (before_last words);
  count = length words;
  first = number_said (word_at words 0);
  second = number_said (word_at words 1);
  third = number_said (word_at words 2);
}

-- the words that a scan tells of are what a command wants
abbrev pub scan_fits : Form → Scan → Bool
scan_fits (Form.Numbers k) s = eqb s.count k && s.good
scan_fits (Form.Optional k) s = leb k s.count && (leb s.count (k + 1) && s.good)
scan_fits (Form.File k) s = eqb s.count (k + 1) && s.front
scan_fits (Form.OptionalFile k) s = cond (eqb s.count k) s.good (eqb s.count (k + 1) && s.front)
scan_fits Form.Cycle s = leb 1 s.count && s.good
scan_fits Form.List s = s.good
