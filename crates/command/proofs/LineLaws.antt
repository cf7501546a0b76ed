-- What a line says, from its name on. Assumes nothing.
use Rattle.std.proofs.Common.{Option, Some, Ok, Err, None}
use mathlib.Core.Path.{◌≡◌, refl, sym, ap, subst, ◌∙◌}
use mathlib.Core.Bool.{Bool, true, false, cond, ◌&&◌}
use mathlib.Core.List.{List, [], ◌∷◌}
use Prim.Native.Nat.{ℕ, ◌+◌, ◌-◌, ◌≤◌, ◌<◌, min}
use native.Mathlib.Omega.{arith}
use borrow.Author.Tests.{eq-eqb, ne_eqb, eqb-true, eqb-false, le-leb, lt-leb, leb-true}
use lib.Dec.{leb, eqb}
use lib.ListN.{length, get_or, take, drop}
use lib.Seq.{take_all, drop-drop, get_or-drop}
use Rattle.words.proofs.Tests.{by_test}
use Rattle.command_table.specs.declared.Form.{Form}
use Rattle.command_table.specs.declared.Verb.{Verb}
use Rattle.command_table.specs.declared.Entry.{Entry}
use Rattle.command_table.specs.Commands.{command_of}
use Rattle.command.specs.declared.Trouble.TheVariants as Trouble
use Rattle.command.specs.declared.Request.{Request}
use Rattle.command.specs.Parsed.{Parsed}
use Rattle.command.specs.declared.scan.Scan.{Scan}
use Rattle.command.specs.Lines.{text_of, words_of, word_at, all_numbers, fits, requested, named, is_comment, said, meaning, narrowed, latencies_in, tags_in, in_front, word_in}
use Rattle.command.specs.Inner.{word_from, words_from, TextEnd, Begins, Passes, scanned, scan_fits}
use Rattle.command.proofs.WordLaws.{part, word_byte, word_part, words_end, words_here, begins_first}

-- Where the text of a line ends

pub text_none : (line : List ℕ) → length line ≡ 0 → TextEnd line 0
unfolding text_of
text_none [] e = record { inside = omega arith; text = refl }
text_none (b ∷ line) e = absurd (omega arith)

pub text_return : (line : List ℕ) → get_or line (length line - 1) 0 ≡ 13 → TextEnd line (length line - 1)
unfolding text_of
text_return line e = record {
  inside = omega arith;
  text = sym (ap (λ t. cond t (take (length line - 1) line) line) (eq-eqb (get_or line (length line - 1) 0) 13 e));
}

pub text_whole : (line : List ℕ) → (get_or line (length line - 1) 0 ≡ 13 → ⊥) → TextEnd line (length line)
unfolding text_of
text_whole line n = record {
  inside = omega arith;
  text =
      take_all (length line) line (omega arith)
      ∙ sym (ap (λ t. cond t (take (length line - 1) line) line) (ne_eqb (get_or line (length line - 1) 0) 13 n));
}

-- The words after the name

-- where there are so many words and one more, so many stand in front of the last
scan_file : (k : ℕ) (words : List (List ℕ)) → scan_fits (Form.File k) (scanned words) ≡ fits (Form.File k) words
scan_file k words = by_test (eqb (length words) (k + 1)) counted (λ t. rw t)
  where
    counted : eqb (length words) (k + 1) ≡ true → scan_fits (Form.File k) (scanned words) ≡ fits (Form.File k) words
    counted t =
        let front : length words - 1 ≡ k = omega (arith, eqb-true (length words) (k + 1) t) in
        ap (λ n. eqb (length words) (k + 1) && all_numbers (take n words)) front

-- not so many, and at least so many but at most one more: just one more
one_more : (n k : ℕ) (b : Bool) → (n ≡ k → ⊥) → eqb n (k + 1) && b ≡ leb k n && (leb n (k + 1) && b)
one_more n k b other = by_test (eqb n (k + 1)) more (λ t. rw t (by_test (leb k n) (beyond t) (λ f. rw f)))
  where
    more : eqb n (k + 1) ≡ true → eqb n (k + 1) && b ≡ leb k n && (leb n (k + 1) && b)
    more t = let e = eqb-true n (k + 1) t in rw (t, le-leb k n (omega arith), le-leb n (k + 1) (omega arith))

    beyond : eqb n (k + 1) ≡ false → leb k n ≡ true → false ≡ leb k n && (leb n (k + 1) && b)
    beyond t f = let l = leb-true k n f in rw (f, lt-leb n (k + 1) (omega (arith, other, eqb-false n (k + 1) t)))

-- where there are just so many words, all of them stand in front of the file that was left out
scan_optional_file : (k : ℕ) (words : List (List ℕ)) → scan_fits (Form.OptionalFile k) (scanned words) ≡ fits (Form.OptionalFile k) words
scan_optional_file k words = by_test (eqb (length words) k) alone filed
  where
    alone : eqb (length words) k ≡ true → scan_fits (Form.OptionalFile k) (scanned words) ≡ fits (Form.OptionalFile k) words
    alone t =
        let e = eqb-true (length words) k t in
        rw (t, le-leb k (length words) (omega arith), le-leb (length words) (k + 1) (omega arith)) (sym (ap all_numbers (take_all k words (omega arith))))

    filed : eqb (length words) k ≡ false → scan_fits (Form.OptionalFile k) (scanned words) ≡ fits (Form.OptionalFile k) words
    filed t = rw t (scan_file k words ∙ one_more (length words) k (all_numbers (take k words)) (eqb-false (length words) k t))

scan_fits_lem : (form : Form) (words : List (List ℕ)) → scan_fits form (scanned words) ≡ fits form words
scan_fits_lem (Form.Numbers k) words = refl
scan_fits_lem (Form.Optional k) words = refl
scan_fits_lem (Form.File k) words = scan_file k words
scan_fits_lem (Form.OptionalFile k) words = scan_optional_file k words
scan_fits_lem Form.Cycle words = refl
scan_fits_lem Form.List words = refl

-- what a scan tells, form by form
module _ (s : Scan) where
  pub fit_numbers : (k : ℕ) → s.count ≡ k → s.good ≡ scan_fits (Form.Numbers k) s
  fit_numbers k e = sym (ap (λ t. t && s.good) (eq-eqb s.count k e))

  pub fit_numbers_not : (k : ℕ) → (s.count ≡ k → ⊥) → eqb s.count k ≡ scan_fits (Form.Numbers k) s
  fit_numbers_not k n = let e : eqb s.count k ≡ false = ne_eqb s.count k n in e ∙ sym (ap (λ t. t && s.good) e)

  pub optional_few : (k : ℕ) → s.count < k → false ≡ scan_fits (Form.Optional k) s
  optional_few k h = sym (ap (λ t. t && (leb s.count (k + 1) && s.good)) (lt-leb k s.count h))

  pub optional_many : (k : ℕ) → k ≤ s.count → 1 < s.count - k → false ≡ scan_fits (Form.Optional k) s
  optional_many k l h =
      sym (ap (λ t. t && (leb s.count (k + 1) && s.good)) (le-leb k s.count l) ∙ ap (λ t. t && s.good) (lt-leb s.count (k + 1) (omega arith)))

  pub optional_fit : (k : ℕ) → k ≤ s.count → s.count - k ≤ 1 → s.good ≡ scan_fits (Form.Optional k) s
  optional_fit k l h =
      sym (ap (λ t. t && (leb s.count (k + 1) && s.good)) (le-leb k s.count l) ∙ ap (λ t. t && s.good) (le-leb s.count (k + 1) (omega arith)))

  pub file_none : (k : ℕ) → s.count ≡ 0 → false ≡ scan_fits (Form.File k) s
  file_none k e = sym (ap (λ t. t && s.front) (ne_eqb s.count (k + 1) (λ q. omega arith)))

  pub file_not : (k : ℕ) → (s.count - 1 ≡ k → ⊥) → false ≡ scan_fits (Form.File k) s
  file_not k n = sym (ap (λ t. t && s.front) (ne_eqb s.count (k + 1) (λ q. n (omega arith))))

  pub file_fit : (k : ℕ) → (s.count ≡ 0 → ⊥) → s.count - 1 ≡ k → s.front ≡ scan_fits (Form.File k) s
  file_fit k n e = sym (ap (λ t. t && s.front) (eq-eqb s.count (k + 1) (omega (arith, n))))

  pub optional_file_none : (k : ℕ) → s.count ≡ k → s.good ≡ scan_fits (Form.OptionalFile k) s
  optional_file_none k e = sym (ap (λ t. cond t s.good (scan_fits (Form.File k) s)) (eq-eqb s.count k e))

  pub optional_file_some : (k : ℕ) → (s.count ≡ k → ⊥) → scan_fits (Form.File k) s ≡ scan_fits (Form.OptionalFile k) s
  optional_file_some k n = sym (ap (λ t. cond t s.good (scan_fits (Form.File k) s)) (ne_eqb s.count k n))

  pub fit_cycle : 1 ≤ s.count → s.good ≡ scan_fits Form.Cycle s
  fit_cycle h = sym (ap (λ t. t && s.good) (le-leb 1 s.count h))

  pub fit_cycle_not : s.count < 1 → leb 1 s.count ≡ scan_fits Form.Cycle s
  fit_cycle_not h = let e : leb 1 s.count ≡ false = lt-leb 1 s.count h in e ∙ sym (ap (λ t. t && s.good) e)

-- the command of a scan
abbrev request_in : Verb → Scan → Request
request_in v s = record { verb = v; count = s.count; first = s.first; second = s.second; third = s.third }

module _ (e : Entry) (words : List (List ℕ)) {s : Scan} {fit : Bool} (told : s ≡ scanned words) (fitting : fit ≡ scan_fits e.form s) where
  fits_told : fits e.form words ≡ fit
  fits_told = sym (fitting ∙ ap (scan_fits e.form) told ∙ scan_fits_lem e.form words)

  pub rest_command : fit ≡ true
      → Ok (Some (record { verb = e.verb; count = s.count; first = s.first; second = s.second; third = s.third })) ≡ named (Some e) words
  rest_command t =
      ap (λ x. Ok (Some (request_in e.verb x))) told
      ∙ sym (ap (λ b. cond b (Ok (Some (requested e.verb words))) (Err (Trouble.Usage e.row))) (fits_told ∙ t))

  pub rest_usage : fit ≡ false → Err (Trouble.Usage e.row) ≡ named (Some e) words
  rest_usage t = sym (ap (λ b. cond b (Ok (Some (requested e.verb words))) (Err (Trouble.Usage e.row))) (fits_told ∙ t))

-- The text of a line

module _ (text : List ℕ) (from : ℕ) (b : Begins text 0 from) where
  -- no words
  pub said_nothing : from ≡ length text → Ok None ≡ said (words_of text)
  unfolding said
  said_nothing e = sym (ap said (sym b.same ∙ words_end text from (omega arith)))

  module _ (some : from ≡ length text → ⊥) where
    inside : from < length text
    inside = omega (arith, some, b.inside)

    byte_first : word_from text from ≡ get_or text from 0 ∷ word_from text (from + 1)
    byte_first = word_byte text from inside (b.here inside)

    pub said_comment : get_or text from 0 ≡ 35 → Ok None ≡ said (words_of text)
    unfolding said
    said_comment e =
        let end : ℕ = from + length (word_from text from) in
        let c : is_comment (word_from text from) ≡ true = ap is_comment byte_first ∙ eq-eqb (get_or text from 0) 35 e in
        sym (ap said (sym b.same ∙ words_here text from end refl inside (b.here inside))
        ∙ ap (λ t. cond t (Ok None) (named (command_of (word_from text from)) (words_from text end))) c)

    pub said_named : (end : ℕ) (name : (Option Entry)) → (get_or text from 0 ≡ 35 → ⊥) → end ≡ from + length (word_from text from) → name ≡ command_of (part from end text)
        → named name (words_from text end) ≡ said (words_of text)
    unfolding said
    said_named end name n e q =
        let c : is_comment (word_from text from) ≡ false = ap is_comment byte_first ∙ ne_eqb (get_or text from 0) 35 n in
        let same : name ≡ command_of (word_from text from) = q ∙ ap command_of (word_part text from end e) in
        sym (ap said (sym b.same ∙ words_here text from end e inside (b.here inside))
        ∙ ap (λ t. cond t (Ok None) (named (command_of (word_from text from)) (words_from text end))) c
        ∙ ap (λ x. named x (words_from text end)) (sym same))

-- A line

pub meaning_long : (line : List ℕ) → 4096 < length line → Err Trouble.TooLong ≡ meaning line
unfolding meaning
meaning_long line h = rw (lt-leb (length line) 4096 h)

pub meaning_said : (line : List ℕ) → length line ≤ 4096 → meaning line ≡ said (words_of (text_of line))
unfolding meaning
meaning_said line h = rw (le-leb (length line) 4096 h)

pub meaning_text : (line : List ℕ) (end : ℕ) → length line ≤ 4096 → TextEnd line end → said (words_of (take end line)) ≡ meaning line
meaning_text line end h t = ap (λ x. said (words_of x)) t.text ∙ sym (meaning_said line h)

-- The rest of some lines

-- the same bytes
pub same_in_front : {l m after : List ℕ} {n : ℕ} (bytes : List ℕ) → l ≡ m → (n ≡ min (length l) (length bytes)) × (after ≡ in_front l bytes)
    → (n ≡ min (length m) (length bytes)) × (after ≡ in_front m bytes)
same_in_front {after = after} {n} bytes e p = subst (λ l. (n ≡ min (length l) (length bytes)) × (after ≡ in_front l bytes)) e p

-- the words after the tag
pub latencies_rest : (line : List ℕ) (end name tag : ℕ) → TextEnd line end → Passes (take end line) 0 1 name → Passes (take end line) name 1 tag
    → narrowed (words_from (take end line) tag) ≡ latencies_in line
unfolding latencies_in
latencies_rest line end name tag t p q =
    ap narrowed (q.rest ∙ ap (drop 1) p.rest ∙ drop-drop 1 1 (words_of (take end line)) ∙ ap (λ x. drop 2 (words_of x)) t.text)

-- the words after the name
pub tags_rest : (line : List ℕ) (end name : ℕ) → TextEnd line end → Passes (take end line) 0 1 name
    → narrowed (words_from (take end line) name) ≡ tags_in line
unfolding tags_in
tags_rest line end name t p = ap narrowed (p.rest ∙ ap (λ x. drop 1 (words_of x)) t.text)

-- a word
pub word_read : (line : List ℕ) (end index before from to : ℕ) → TextEnd line end → Passes (take end line) 0 index before
    → Begins (take end line) before from → to ≡ from + length (word_from (take end line) from) → part from to (take end line) ≡ word_in line index
unfolding word_in
word_read line end index before from to t p b e =
    let text : List ℕ = take end line in
    word_part text from to e ∙ sym (begins_first b) ∙ ap (λ w. word_at w 0) p.rest ∙ here index (words_of text)
    ∙ ap (λ x. word_at (words_of x) index) t.text
  where
    here : (i : ℕ) (words : List (List ℕ)) → word_at (drop i words) 0 ≡ word_at words i
    here i words = get_or-drop i words 0 [] ∙ ap (word_at words) (omega arith)
