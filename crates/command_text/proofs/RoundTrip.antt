-- A command written and parsed is the command again. Assumes nothing.
use Rattle.std.proofs.Common.{Some, Ok, Err, None}
use mathlib.Core.Path.{◌≡◌, refl, sym, ap, ◌∙◌}
use mathlib.Core.Bool.{Bool, true, false, cond, not, ◌&&◌}
use mathlib.Core.List.{List, [], ◌∷◌, ◌++◌, map, append_assoc, append-nil}
use Prim.Native.Nat.{ℕ, zero, suc, ◌+◌, ◌-◌, ◌^◌, ◌≤◌, ◌<◌}
use native.Mathlib.Numerals.{add-one}
use native.Mathlib.Omega.{arith}
use borrow.Author.Tests.{eq-eqb, ne_eqb, eqb-true, eqb-false, not-true, le-leb, leb-true}
use lib.Dec.{eqb, leb}
use lib.ListN.{length, get_or, take, drop, length-append}
use lib.Seq.{take_all, take_at, drop_at, get_or_at}
use Rattle.words.specs.Below.{join_below}
use Rattle.words.specs.Bytes.{narrow}
use Rattle.words.proofs.Tests.{and_left, and_right, and_true, nowhere}
use Rattle.text.specs.Text.{ascii, decimal, spaced, value}
use Rattle.text.proofs.DecimalLaws.{decimal_some, decimal_value, decimal_digits}
use Rattle.command_table.specs.declared.Verb.{Verb}
use Rattle.command_table.specs.declared.Form.{Form}
use Rattle.command_table.specs.declared.Form.TheVariants as Form
use Rattle.command_table.specs.Commands.{rows, row_at, name_at, entry_at, command_of}
use Rattle.command_table.proofs.TableLaws.{is_letter, letters_only, name_some, name_letters, name_command}
use Rattle.command.specs.declared.Trouble.TheVariants as Trouble
use Rattle.command.specs.declared.Request.{Request}
use Rattle.command.specs.Parsed.{Parsed}
use Rattle.command.specs.Lines.{text_of, is_blank, parts_of, words_of, word_at, is_number, number_said, all_numbers, fits, requested, named, is_comment, said, meaning, narrowed, latencies_in, tags_in, word_in}
use Rattle.command.proofs.WordLaws.{first_byte, first_blank, first_none, words_none, words_blank, words_first}
use Rattle.command.proofs.NumberLaws.{digits_each, number_is}
use Rattle.command.proofs.ScanLaws.{all_cons, all_none, number_none}
use Rattle.command.proofs.LineLaws.{text_whole, meaning_said}
use Rattle.command_text.specs.Written.{number_line, file_line, suits, suits_file}

-- Words without a blank

abbrev blankless : List ℕ → Bool
blankless [] = true
blankless (b ∷ word) = not (is_blank b) && blankless word

blankless_each : (word : List ℕ) → ((i : ℕ) → i < length word → is_blank (get_or word i 0) ≡ false) → blankless word ≡ true
blankless_each [] each = refl
blankless_each (b ∷ word) each = and_true (ap not (each 0 (omega arith))) (blankless_each word (λ i h. each (suc i) (omega arith)))

first_word : (b : ℕ) (word : List ℕ) → blankless (b ∷ word) ≡ true → is_blank b ≡ false
first_word b word e = not-true (is_blank b) (and_left (not (is_blank b)) (blankless word) e)

-- a word before what begins with a blank, or is empty
word_before : (word rest : List ℕ) → blankless word ≡ true → word_at (parts_of rest) 0 ≡ [] → word_at (parts_of (word ++ rest)) 0 ≡ word
word_before [] rest e n = n
word_before (b ∷ word) rest e n =
    first_byte b (word ++ rest) (first_word b word e) ∙ ap (λ w. b ∷ w) (word_before word rest (and_right (not (is_blank b)) (blankless word) e) n)

words_before : (word rest : List ℕ) → 1 ≤ length word → blankless word ≡ true → word_at (parts_of rest) 0 ≡ [] → words_of (word ++ rest) ≡ word ∷ words_of rest
words_before [] rest h e n = absurd (omega arith)
words_before (b ∷ word) rest h e n =
    let same : word_at (parts_of ((b ∷ word) ++ rest)) 0 ≡ b ∷ word = word_before (b ∷ word) rest e n in
    words_first b (word ++ rest) (first_word b word e) ∙ ap (λ w. w ∷ words_of (drop (length w) ((b ∷ word) ++ rest))) same
    ∙ ap (λ l. (b ∷ word) ∷ words_of l) (drop_at (b ∷ word) rest (length (b ∷ word)) refl)

words_alone : (word : List ℕ) → 1 ≤ length word → blankless word ≡ true → words_of word ≡ word ∷ []
words_alone word h e =
    ap words_of (sym (append-nil word)) ∙ words_before word [] h e first_none ∙ ap (λ w. word ∷ w) words_none

words_then : (word rest : List ℕ) → 1 ≤ length word → blankless word ≡ true → words_of (word ++ (32 ∷ rest)) ≡ word ∷ words_of rest
words_then word rest h e = words_before word (32 ∷ rest) h e (first_blank 32 rest refl) ∙ ap (λ w. word ∷ w) (words_blank 32 rest refl)

-- Lines without a carriage return

abbrev returnless : List ℕ → Bool
returnless [] = true
returnless (b ∷ line) = not (eqb b 13) && returnless line

returnless_each : (line : List ℕ) → ((i : ℕ) → i < length line → get_or line i 0 ≡ 13 → ⊥) → returnless line ≡ true
returnless_each [] each = refl
returnless_each (b ∷ line) each =
    and_true (ap not (ne_eqb b 13 (each 0 (omega arith)))) (returnless_each line (λ i h. each (suc i) (omega arith)))

returnless_join : (a b : List ℕ) → returnless a ≡ true → returnless b ≡ true → returnless (a ++ b) ≡ true
returnless_join [] b p q = q
returnless_join (x ∷ a) b p q =
    and_true (and_left (not (eqb x 13)) (returnless a) p) (returnless_join a b (and_right (not (eqb x 13)) (returnless a) p) q)

returnless_at : (line : List ℕ) (i : ℕ) → returnless line ≡ true → get_or line i 0 ≡ 13 → ⊥
returnless_at [] i e q = omega arith
returnless_at (b ∷ line) zero e q =
    let t : eqb b 13 ≡ false = not-true (eqb b 13) (and_left (not (eqb b 13)) (returnless line) e) in eqb-false b 13 t q
returnless_at (b ∷ line) (suc i) e q = returnless_at line i (and_right (not (eqb b 13)) (returnless line) e) q

whole_text : (line : List ℕ) → returnless line ≡ true → text_of line ≡ line
whole_text line e = let w = text_whole line (returnless_at line (length line - 1) e) in sym w.text ∙ take_all (length line) line (omega arith)

-- Numbers after a word

-- the first list stands in front
join_first : (n : ℕ) (f : ℕ → List ℕ) → join_below (suc n) f ≡ f 0 ++ join_below n (λ i. f (suc i))
unfolding join_below
join_first zero f = sym (append-nil (f 0))
join_first (suc n) f = ap (λ x. x ++ f (suc n)) (join_first n f) ∙ append_assoc (f 0) (join_below n (λ i. f (suc i))) (f (suc n))

spaced_none : spaced [] ≡ []
unfolding spaced join_below
spaced_none = refl

spaced_cons : (n : ℕ) (numbers : List ℕ) → spaced (n ∷ numbers) ≡ 32 ∷ (decimal n ++ spaced numbers)
unfolding spaced
spaced_cons n numbers = join_first (length numbers) (λ i. ascii " " ++ decimal (get_or (n ∷ numbers) i 0))

digit_plain : (b : ℕ) → 48 ≤ b → is_blank b ≡ false
digit_plain b h = rw (ne_eqb b 32 (λ e. omega arith), ne_eqb b 9 (λ e. omega arith))

decimal_blankless : (n : ℕ) → blankless (decimal n) ≡ true
decimal_blankless n = blankless_each (decimal n) (λ i h. digit_plain (get_or (decimal n) i 0) (decimal_digits n i h).0)

-- a word, numbers, and then what begins with a blank, or is empty
words_spaced : (word numbers rest : List ℕ) → 1 ≤ length word → blankless word ≡ true → word_at (parts_of rest) 0 ≡ []
    → words_of (word ++ (spaced numbers ++ rest)) ≡ word ∷ (map decimal numbers ++ words_of rest)
words_spaced word [] rest h e z = ap (λ x. words_of (word ++ (x ++ rest))) spaced_none ∙ words_before word rest h e z
words_spaced word (n ∷ numbers) rest h e z =
    ap (λ x. words_of (word ++ (x ++ rest))) (spaced_cons n numbers)
    ∙ ap (λ x. words_of (word ++ (32 ∷ x))) (append_assoc (decimal n) (spaced numbers) rest)
    ∙ words_then word (decimal n ++ (spaced numbers ++ rest)) h e
    ∙ ap (λ x. word ∷ x) (words_spaced (decimal n) numbers rest (decimal_some n) (decimal_blankless n) z)

words_numbers : (word numbers : List ℕ) → 1 ≤ length word → blankless word ≡ true → words_of (word ++ spaced numbers) ≡ word ∷ map decimal numbers
words_numbers word numbers h e =
    ap (λ x. words_of (word ++ x)) (sym (append-nil (spaced numbers))) ∙ words_spaced word numbers [] h e first_none
    ∙ ap (λ x. word ∷ x) (ap (λ x. map decimal numbers ++ x) words_none ∙ append-nil (map decimal numbers))

words_file : (word numbers file : List ℕ) → 1 ≤ length word → blankless word ≡ true → 1 ≤ length file → blankless file ≡ true
    → words_of (word ++ (spaced numbers ++ (32 ∷ file))) ≡ word ∷ (map decimal numbers ++ (file ∷ []))
words_file word numbers file h e some plain =
    words_spaced word numbers (32 ∷ file) h e (first_blank 32 file refl)
    ∙ ap (λ x. word ∷ (map decimal numbers ++ x)) (words_blank 32 file refl ∙ words_alone file some plain)

spaced_returnless : (numbers : List ℕ) → returnless (spaced numbers) ≡ true
spaced_returnless [] = ap returnless spaced_none
spaced_returnless (n ∷ numbers) =
    let digits : returnless (decimal n) ≡ true = returnless_each (decimal n) (λ i h e. omega (arith, (decimal_digits n i h).0)) in
    ap returnless (spaced_cons n numbers) ∙ returnless_join (decimal n) (spaced numbers) digits (spaced_returnless numbers)

decimal_number : (n : ℕ) → n < 2 ^ 32 → (is_number (decimal n) ≡ true) × (number_said (decimal n) ≡ n)
decimal_number n h =
    let v : value (decimal n) ≡ n = decimal_value n (omega arith) in
    let p = number_is (decimal n) (decimal_some n) (digits_each (decimal n) (decimal_digits n)) (omega arith) in
    (p.0, p.1 ∙ v)

-- numbers of 32 bits
abbrev pub Small : List ℕ → Type 0
Small numbers = (i : ℕ) → i < length numbers → get_or numbers i 0 < 2 ^ 32

small_rest : (n : ℕ) (numbers : List ℕ) → Small (n ∷ numbers) → Small numbers
small_rest n numbers s i h = s (suc i) (omega arith)

all_decimal : (numbers : List ℕ) → Small numbers → all_numbers (map decimal numbers) ≡ true
all_decimal [] s = all_none
all_decimal (n ∷ numbers) s =
    all_cons (decimal n) (map decimal numbers) ∙ and_true (decimal_number n (s 0 (omega arith))).0 (all_decimal numbers (small_rest n numbers s))

number_at : (numbers : List ℕ) (i : ℕ) → Small numbers → number_said (word_at (map decimal numbers) i) ≡ get_or numbers i 0
number_at [] i s = number_none
number_at (n ∷ numbers) zero s = (decimal_number n (s 0 (omega arith))).1
number_at (n ∷ numbers) (suc i) s = number_at numbers i (small_rest n numbers s)

-- the numbers that the words before a file and the file say
number_before : (numbers file : List ℕ) (i : ℕ) → Small numbers
    → number_said (word_at (map decimal numbers ++ (file ∷ [])) i) ≡ get_or (numbers ++ (number_said file ∷ [])) i 0
number_before [] file zero s = refl
number_before [] file (suc i) s = number_none
number_before (n ∷ numbers) file zero s = (decimal_number n (s 0 (omega arith))).1
number_before (n ∷ numbers) file (suc i) s = number_before numbers file i (small_rest n numbers s)

count_decimal : (numbers : List ℕ) → length (map decimal numbers) ≡ length numbers
count_decimal [] = refl
count_decimal (n ∷ numbers) = ap suc (count_decimal numbers)

narrow_decimal : (numbers : List ℕ) → Small numbers → narrowed (map decimal numbers) ≡ map narrow numbers
narrow_decimal [] s = refl
narrow_decimal (n ∷ numbers) s =
    ap (λ x. x ∷ narrowed (map decimal numbers)) (ap narrow (decimal_number n (s 0 (omega arith))).1)
    ∙ ap (λ x. narrow n ∷ x) (narrow_decimal numbers (small_rest n numbers s))

-- Names

letter_from : (b : ℕ) → is_letter b ≡ true → 97 ≤ b
letter_from b e = leb-true 97 b (and_left (leb 97 b) (leb b 122) e)

letters_blankless : (word : List ℕ) → letters_only word ≡ true → blankless word ≡ true
letters_blankless [] e = refl
letters_blankless (b ∷ word) e =
    let l = letter_from b (and_left (is_letter b) (letters_only word) e) in
    and_true (ap not (digit_plain b (omega arith))) (letters_blankless word (and_right (is_letter b) (letters_only word) e))

letters_returnless : (word : List ℕ) → letters_only word ≡ true → returnless word ≡ true
letters_returnless [] e = refl
letters_returnless (b ∷ word) e =
    let l = letter_from b (and_left (is_letter b) (letters_only word) e) in
    and_true (ap not (ne_eqb b 13 (λ q. omega arith))) (letters_returnless word (and_right (is_letter b) (letters_only word) e))

letters_no_comment : (word : List ℕ) → letters_only word ≡ true → is_comment word ≡ false
letters_no_comment [] e = refl
letters_no_comment (b ∷ word) e =
    let l = letter_from b (and_left (is_letter b) (letters_only word) e) in ne_eqb b 35 (λ q. omega arith)

-- The laws

module _ (row : ℕ) (listed : row < length rows) where
  letters : letters_only (name_at row) ≡ true
  letters = name_letters row listed

  said_name : (words : List (List ℕ)) → said (name_at row ∷ words) ≡ named (Some (entry_at row)) words
  unfolding said
  said_name words =
      ap (λ t. cond t (Ok None) (named (command_of (name_at row)) words)) (letters_no_comment (name_at row) letters)
      ∙ ap (λ x. named x words) (name_command row listed)

  -- what a line of the name and words says
  line_says : (rest : List ℕ) (words : List (List ℕ)) → length (name_at row ++ rest) ≤ 4096 → returnless rest ≡ true
      → words_of (name_at row ++ rest) ≡ name_at row ∷ words → fits (row_at row).form words ≡ true
      → meaning (name_at row ++ rest) ≡ Ok (Some (requested (row_at row).verb words))
  line_says rest words l r w f =
      let text : text_of (name_at row ++ rest) ≡ name_at row ++ rest =
      whole_text (name_at row ++ rest) (returnless_join (name_at row) rest (letters_returnless (name_at row) letters) r)
      in
      meaning_said (name_at row ++ rest) l ∙ ap (λ x. said (words_of x)) text ∙ ap said w ∙ said_name words
      ∙ ap (λ b. cond b (Ok (Some (requested (row_at row).verb words))) (Err (Trouble.Usage row))) f

  number_words : (numbers : List ℕ) → words_of (number_line row numbers) ≡ name_at row ∷ map decimal numbers
  number_words numbers = words_numbers (name_at row) numbers (name_some row listed) (letters_blankless (name_at row) letters)

  number_text : (numbers : List ℕ) → text_of (number_line row numbers) ≡ number_line row numbers
  number_text numbers =
      whole_text (number_line row numbers)
      (returnless_join (name_at row) (spaced numbers) (letters_returnless (name_at row) letters) (spaced_returnless numbers))

  -- the words of the line from word k on, the name being word 0
  bytes_from : (k : ℕ) (numbers : List ℕ) → narrowed (drop k (words_of (text_of (number_line row numbers)))) ≡ narrowed (drop k (name_at row ∷ map decimal numbers))
  bytes_from k numbers = ap (λ x. narrowed (drop k (words_of x))) (number_text numbers) ∙ ap (λ w. narrowed (drop k w)) (number_words numbers)

suits_fits : (form : Form) (numbers : List ℕ) → Small numbers → suits form numbers ≡ true → fits form (map decimal numbers) ≡ true
suits_fits (Form.Numbers k) numbers s e = and_true (ap (λ n. eqb n k) (count_decimal numbers) ∙ e) (all_decimal numbers s)
suits_fits (Form.Optional k) numbers s e =
    and_true (ap (leb k) (count_decimal numbers) ∙ and_left (leb k (length numbers)) (leb (length numbers) (k + 1)) e)
    (and_true (ap (λ n. leb n (k + 1)) (count_decimal numbers) ∙ and_right (leb k (length numbers)) (leb (length numbers) (k + 1)) e) (all_decimal numbers s))
suits_fits (Form.File k) numbers s e = nowhere e
suits_fits (Form.OptionalFile k) numbers s e =
    let n : length (map decimal numbers) ≡ k = count_decimal numbers ∙ eqb-true (length numbers) k e in
    and_true (le-leb k (length (map decimal numbers)) (omega arith))
    (and_true (le-leb (length (map decimal numbers)) (k + 1) (omega arith))
    (ap all_numbers (take_all k (map decimal numbers) (omega arith)) ∙ all_decimal numbers s))
suits_fits Form.Cycle numbers s e = and_true (ap (leb 1) (count_decimal numbers) ∙ e) (all_decimal numbers s)
suits_fits Form.List numbers s e = all_decimal numbers s

-- a command by its parts
abbrev request : Verb → ℕ → ℕ → ℕ → ℕ → Request
request v count first second third = record { verb = v; count = count; first = first; second = second; third = third }

same_request : (v : Verb) {m n a b d e x y : ℕ} → m ≡ n → a ≡ b → d ≡ e → x ≡ y → request v m a d x ≡ request v n b e y
same_request v p q r s = λ i. request v (p i) (q i) (r i) (s i)

-- a command of the table with numbers is parsed again
pub numbers_parsed : (row : ℕ) (numbers : List ℕ) → row < length rows → ((i : ℕ) → i < length numbers → get_or numbers i 0 < 2 ^ 32)
    → suits (row_at row).form numbers ≡ true → length (number_line row numbers) ≤ 4096
    → meaning (number_line row numbers)
    ≡ Ok (Some (record { verb = (row_at row).verb; count = length numbers; first = get_or numbers 0 0; second = get_or numbers 1 0; third = get_or numbers 2 0 }))
numbers_parsed row numbers h s e l =
    line_says row h (spaced numbers) (map decimal numbers) l (spaced_returnless numbers) (number_words row h numbers) (suits_fits (row_at row).form numbers s e)
    ∙ ap (λ w. Ok (Some w))
    (same_request (row_at row).verb (count_decimal numbers) (number_at numbers 0 s) (number_at numbers 1 s) (number_at numbers 2 s))

-- and so are the latencies of a cycle
pub latencies_parsed : (row q : ℕ) (latencies : List ℕ) → row < length rows → ((i : ℕ) → i < length latencies → get_or latencies i 0 < 2 ^ 32)
    → latencies_in (number_line row (q ∷ latencies)) ≡ map narrow latencies
unfolding latencies_in
latencies_parsed row q latencies h s = bytes_from row h 2 (q ∷ latencies) ∙ narrow_decimal latencies s

-- and the tags of a loop
pub tags_parsed : (row : ℕ) (tags : List ℕ) → row < length rows → ((i : ℕ) → i < length tags → get_or tags i 0 < 2 ^ 32)
    → tags_in (number_line row tags) ≡ map narrow tags
unfolding tags_in
tags_parsed row tags h s = bytes_from row h 1 tags ∙ narrow_decimal tags s

-- Lines with a file

-- the words after the name
abbrev file_words : List ℕ → List ℕ → List (List ℕ)
file_words numbers file = map decimal numbers ++ (file ∷ [])

file_count : (numbers file : List ℕ) → length (file_words numbers file) ≡ length numbers + 1
file_count numbers file = length-append (map decimal numbers) (file ∷ []) ∙ ap (λ n. n + 1) (count_decimal numbers)

module _ (numbers file : List ℕ) (small : Small numbers) (k : ℕ) (counted : eqb (length numbers) k ≡ true) where
  one_more : length (file_words numbers file) ≡ k + 1
  one_more = file_count numbers file ∙ ap (λ n. n + 1) (eqb-true (length numbers) k counted)

  before_file : all_numbers (take k (file_words numbers file)) ≡ true
  before_file =
      ap all_numbers (take_at (map decimal numbers) (file ∷ []) k (count_decimal numbers ∙ eqb-true (length numbers) k counted)) ∙ all_decimal numbers small

  file_wanted : fits (Form.File k) (file_words numbers file) ≡ true
  file_wanted = and_true (eq-eqb (length (file_words numbers file)) (k + 1) one_more) before_file

  file_allowed : fits (Form.OptionalFile k) (file_words numbers file) ≡ true
  file_allowed =
      and_true (le-leb k (length (file_words numbers file)) (omega (arith, one_more)))
      (and_true (le-leb (length (file_words numbers file)) (k + 1) (omega (arith, one_more))) before_file)

file_fits : (form : Form) (numbers file : List ℕ) → Small numbers → suits_file form numbers ≡ true → fits form (file_words numbers file) ≡ true
file_fits (Form.Numbers k) numbers file s e = nowhere e
file_fits (Form.Optional k) numbers file s e = nowhere e
file_fits (Form.File k) numbers file s e = file_wanted numbers file s k e
file_fits (Form.OptionalFile k) numbers file s e = file_allowed numbers file s k e
file_fits Form.Cycle numbers file s e = nowhere e
file_fits Form.List numbers file s e = nowhere e

file_last : (name numbers file : List ℕ) → word_at (name ∷ file_words numbers file) (length numbers + 1) ≡ file
file_last name numbers file =
    ap (word_at (name ∷ file_words numbers file)) (add-one (length numbers))
    ∙ get_or_at (map decimal numbers) file [] [] (length numbers) (count_decimal numbers)

-- a command with numbers and a file is parsed again, and its file is the same
pub file_parsed : (row : ℕ) (numbers file : List ℕ) → row < length rows → suits_file (row_at row).form numbers ≡ true
    → ((i : ℕ) → i < length numbers → get_or numbers i 0 < 2 ^ 32) → 1 ≤ length file
    → ((i : ℕ) → i < length file → is_blank (get_or file i 0) ≡ false) → ((i : ℕ) → i < length file → get_or file i 0 ≡ 13 → ⊥)
    → length (file_line row numbers file) ≤ 4096
    → (meaning (file_line row numbers file)
    ≡ Ok (Some (record {
      verb = (row_at row).verb;
      count = length numbers + 1;
      first = get_or (numbers ++ (number_said file ∷ [])) 0 0;
      second = get_or (numbers ++ (number_said file ∷ [])) 1 0;
      third = get_or (numbers ++ (number_said file ∷ [])) 2 0;
    })))
    × (word_in (file_line row numbers file) (length numbers + 1) ≡ file)
unfolding word_in
file_parsed row numbers file h e s some each none l =
    let rest : List ℕ = spaced numbers ++ (32 ∷ file) in
    let plain : returnless rest ≡ true = returnless_join (spaced numbers) (32 ∷ file) (spaced_returnless numbers) (returnless_each file none) in
    let words : words_of (file_line row numbers file) ≡ name_at row ∷ file_words numbers file =
    words_file (name_at row) numbers file (name_some row h) (letters_blankless (name_at row) (letters row h)) some (blankless_each file each)
    in
    let text : text_of (file_line row numbers file) ≡ file_line row numbers file =
    whole_text (file_line row numbers file) (returnless_join (name_at row) rest (letters_returnless (name_at row) (letters row h)) plain)
    in (
      line_says row h rest (file_words numbers file) l plain words (file_fits (row_at row).form numbers file s e)
          ∙ ap (λ w. Ok (Some w))
          (same_request (row_at row).verb (file_count numbers file) (number_before numbers file 0 s) (number_before numbers file 1 s) (number_before numbers file 2 s)),
      ap (λ x. word_at (words_of x) (length numbers + 1)) text ∙ ap (λ w. word_at w (length numbers + 1)) words ∙ file_last (name_at row) numbers file,
    )
