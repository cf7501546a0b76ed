-- The words of a text, and the text walked from an index on. Assumes nothing.
use mathlib.Core.Path.{◌≡◌, refl, sym, ap, ◌∙◌}
use mathlib.Core.Bool.{true, false, cond}
use mathlib.Core.List.{List, [], ◌∷◌}
use Prim.Native.Nat.{ℕ, suc, ◌+◌, ◌-◌, ◌≤◌, ◌<◌}
use native.Mathlib.Decide.{dec_lt}
use native.Mathlib.Numerals.{add-one}
use native.Mathlib.Omega.{arith}
use lib.ListN.{length, get_or, take, drop, length-drop, drop_of_length-le}
use lib.Seq.{drop-cons, drop-drop, drop-nil}
use Rattle.words.proofs.Tests.{by_test}
use Rattle.command.specs.Lines.{is_blank, onto, parts_of, filled, words_of, word_at}
use Rattle.command.specs.Inner.{word_from, words_from, Begins, Passes}

-- A text, byte by byte

onto_first : (b : ℕ) (parts : List (List ℕ)) → word_at (onto b parts) 0 ≡ b ∷ word_at parts 0
onto_first b [] = refl
onto_first b (p ∷ parts) = refl

onto_rest : (b : ℕ) (parts : List (List ℕ)) → drop 1 (onto b parts) ≡ drop 1 parts
onto_rest b [] = refl
onto_rest b (p ∷ parts) = refl

-- a blank ends an empty part
parts_blank : (b : ℕ) (l : List ℕ) → is_blank b ≡ true → parts_of (b ∷ l) ≡ [] ∷ parts_of l
unfolding parts_of
parts_blank b l e = ap (λ t. cond t ([] ∷ parts_of l) (onto b (parts_of l))) e

parts_byte : (b : ℕ) (l : List ℕ) → is_blank b ≡ false → parts_of (b ∷ l) ≡ onto b (parts_of l)
unfolding parts_of
parts_byte b l e = ap (λ t. cond t ([] ∷ parts_of l) (onto b (parts_of l))) e

parts_none : parts_of [] ≡ [] ∷ []
unfolding parts_of
parts_none = refl

-- what holds of an empty text, of one that begins with a blank, and of one that begins with another byte
by_byte : (P : List ℕ → Type 0) → P [] → ((b : ℕ) (l : List ℕ) → is_blank b ≡ true → P (b ∷ l)) → ((b : ℕ) (l : List ℕ) → is_blank b ≡ false → P l → P (b ∷ l))
    → (l : List ℕ) → P l
by_byte P none blank byte [] = none
by_byte P none blank byte (b ∷ l) = let r : P l = by_byte P none blank byte l in by_test (is_blank b) (λ e. blank b l e) (λ e. byte b l e r)

pub first_byte : (b : ℕ) (l : List ℕ) → is_blank b ≡ false → word_at (parts_of (b ∷ l)) 0 ≡ b ∷ word_at (parts_of l) 0
first_byte b l e = ap (λ p. word_at p 0) (parts_byte b l e) ∙ onto_first b (parts_of l)

pub first_blank : (b : ℕ) (l : List ℕ) → is_blank b ≡ true → word_at (parts_of (b ∷ l)) 0 ≡ []
first_blank b l e = ap (λ p. word_at p 0) (parts_blank b l e)

pub first_none : word_at (parts_of []) 0 ≡ []
first_none = ap (λ p. word_at p 0) parts_none

rest_byte : (b : ℕ) (l : List ℕ) → is_blank b ≡ false → drop 1 (parts_of (b ∷ l)) ≡ drop 1 (parts_of l)
rest_byte b l e = ap (drop 1) (parts_byte b l e) ∙ onto_rest b (parts_of l)

-- there is a first part
parts_first : (l : List ℕ) → parts_of l ≡ word_at (parts_of l) 0 ∷ drop 1 (parts_of l)
parts_first =
    by_byte (λ l. parts_of l ≡ word_at (parts_of l) 0 ∷ drop 1 (parts_of l))
    (rw parts_none)
    (λ b l e. rw (parts_blank b l e))
    (λ b l e r. parts_byte b l e ∙ ap (onto b) r ∙ sym (ap (λ w. w ∷ drop 1 (parts_of (b ∷ l))) (first_byte b l e) ∙ ap (λ w. (b ∷ word_at (parts_of l) 0) ∷ w) (rest_byte b l e)))

-- The first part and what comes after it

-- the text begins with it
first_take : (l : List ℕ) → take (length (word_at (parts_of l) 0)) l ≡ word_at (parts_of l) 0
first_take =
    by_byte (λ l. take (length (word_at (parts_of l) 0)) l ≡ word_at (parts_of l) 0)
    (rw first_none)
    (λ b l e. rw (first_blank b l e))
    (λ b l e r. rw (first_byte b l e) (ap (λ w. b ∷ w) r))

first_le : (l : List ℕ) → length (word_at (parts_of l) 0) ≤ length l
first_le =
    by_byte (λ l. length (word_at (parts_of l) 0) ≤ length l)
    (rw first_none (omega arith))
    (λ b l e. rw (first_blank b l e) (omega arith))
    (λ b l e r. rw (first_byte b l e) (omega arith))

-- from its end on the text begins with an empty part, and then come the others
first_ends : (l : List ℕ) → word_at (parts_of (drop (length (word_at (parts_of l) 0)) l)) 0 ≡ []
first_ends =
    by_byte (λ l. word_at (parts_of (drop (length (word_at (parts_of l) 0)) l)) 0 ≡ [])
    (rw first_none first_none)
    (λ b l e. rw (first_blank b l e) (first_blank b l e))
    (λ b l e r. rw (first_byte b l e) r)

rest_ends : (l : List ℕ) → drop 1 (parts_of (drop (length (word_at (parts_of l) 0)) l)) ≡ drop 1 (parts_of l)
rest_ends =
    by_byte (λ l. drop 1 (parts_of (drop (length (word_at (parts_of l) 0)) l)) ≡ drop 1 (parts_of l))
    (rw first_none)
    (λ b l e. rw (first_blank b l e))
    (λ b l e r. rw (first_byte b l e) (r ∙ sym (rest_byte b l e)))

-- Words

pub words_none : words_of [] ≡ []
unfolding words_of
words_none = ap filled parts_none

-- a blank before the first word is passed over
pub words_blank : (b : ℕ) (l : List ℕ) → is_blank b ≡ true → words_of (b ∷ l) ≡ words_of l
unfolding words_of
words_blank b l e = ap filled (parts_blank b l e)

-- the words from the end of the first part on
words_rest : (l : List ℕ) → words_of (drop (length (word_at (parts_of l) 0)) l) ≡ filled (drop 1 (parts_of l))
unfolding words_of
words_rest l =
    let m : List ℕ = drop (length (word_at (parts_of l) 0)) l in
    ap filled (parts_first m ∙ ap (λ p. p ∷ drop 1 (parts_of m)) (first_ends l)) ∙ ap filled (rest_ends l)

-- a text that begins with no blank begins with its first word
pub words_first : (b : ℕ) (l : List ℕ) → is_blank b ≡ false
    → words_of (b ∷ l) ≡ word_at (parts_of (b ∷ l)) 0 ∷ words_of (drop (length (word_at (parts_of (b ∷ l)) 0)) (b ∷ l))
unfolding words_of
words_first b l e =
    let rest : List (List ℕ) = drop 1 (parts_of (b ∷ l)) in
    ap filled (parts_first (b ∷ l) ∙ ap (λ p. p ∷ rest) (first_byte b l e))
    ∙ ap (λ p. p ∷ filled rest) (sym (first_byte b l e))
    ∙ ap (λ w. word_at (parts_of (b ∷ l)) 0 ∷ w) (sym (words_rest (b ∷ l)))

-- From an index on

-- the bytes from one index up to another
abbrev pub part : ℕ → ℕ → List ℕ → List ℕ
part from end text = take (end - from) (drop from text)

pub words_end : (text : List ℕ) (at : ℕ) → length text ≤ at → words_from text at ≡ []
words_end text at h = ap words_of (drop_of_length-le text h) ∙ words_none

words_skip : (text : List ℕ) (at : ℕ) → at < length text → is_blank (get_or text at 0) ≡ true → words_from text (at + 1) ≡ words_from text at
words_skip text at h e =
    ap (λ k. words_from text k) (add-one at) ∙ sym (ap words_of (drop-cons text at 0 h) ∙ words_blank (get_or text at 0) (drop (suc at) text) e)

pub word_none : (text : List ℕ) (at : ℕ) → length text ≤ at → word_from text at ≡ []
word_none text at h = ap (λ l. word_at (parts_of l) 0) (drop_of_length-le text h) ∙ first_none

pub word_blank : (text : List ℕ) (at : ℕ) → at < length text → is_blank (get_or text at 0) ≡ true → word_from text at ≡ []
word_blank text at h e = ap (λ l. word_at (parts_of l) 0) (drop-cons text at 0 h) ∙ first_blank (get_or text at 0) (drop (suc at) text) e

-- another byte belongs to the word
pub word_byte : (text : List ℕ) (at : ℕ) → at < length text → is_blank (get_or text at 0) ≡ false → word_from text at ≡ get_or text at 0 ∷ word_from text (at + 1)
word_byte text at h e =
    ap (λ l. word_at (parts_of l) 0) (drop-cons text at 0 h)
    ∙ first_byte (get_or text at 0) (drop (suc at) text) e
    ∙ ap (λ k. get_or text at 0 ∷ word_from text k) (sym (add-one at))

pub word_more : (text : List ℕ) (from at : ℕ) → at < length text → is_blank (get_or text at 0) ≡ false → at + length (word_from text at) ≡ from + length (word_from text from)
    → at + 1 + length (word_from text (at + 1)) ≡ from + length (word_from text from)
word_more text from at h e i =
    let s : length (word_from text at) ≡ suc (length (word_from text (at + 1))) = ap length (word_byte text at h e) in omega arith

pub word_end_none : (text : List ℕ) (from at : ℕ) → length text ≤ at → at + length (word_from text at) ≡ from + length (word_from text from)
    → at ≡ from + length (word_from text from)
word_end_none text from at h i = let s : length (word_from text at) ≡ 0 = ap length (word_none text at h) in omega arith

pub word_end_blank : (text : List ℕ) (from at : ℕ) → at < length text → is_blank (get_or text at 0) ≡ true → at + length (word_from text at) ≡ from + length (word_from text from)
    → at ≡ from + length (word_from text from)
word_end_blank text from at h e i = let s : length (word_from text at) ≡ 0 = ap length (word_blank text at h e) in omega arith

module _ (text : List ℕ) (from : ℕ) (end : ℕ) (ends : end ≡ from + length (word_from text from)) where
  -- where the word ends
  pub word_inside : from ≤ length text → end ≤ length text
  word_inside h = omega (arith, first_le (drop from text), length-drop from text)

  pub word_after : from ≤ end
  word_after = omega arith

  pub word_part : part from end text ≡ word_from text from
  word_part = let n : end - from ≡ length (word_from text from) = omega arith in ap (λ k. take k (drop from text)) n ∙ first_take (drop from text)

  -- a word that begins has a byte, and the others come after it
  pub word_some : from < length text → is_blank (get_or text from 0) ≡ false → from < end
  word_some h e = let s : length (word_from text from) ≡ suc (length (word_from text (from + 1))) = ap length (word_byte text from h e) in omega arith

  pub words_here : from < length text → is_blank (get_or text from 0) ≡ false → words_from text from ≡ word_from text from ∷ words_from text end
  words_here h e =
      let byte : drop from text ≡ get_or text from 0 ∷ drop (suc from) text = drop-cons text from 0 h in
      ap words_of byte ∙ words_first (get_or text from 0) (drop (suc from) text) e
      ∙ ap (λ l. word_at (parts_of l) 0 ∷ words_of (drop (length (word_at (parts_of l) 0)) l)) (sym byte)
      ∙ ap (λ w. word_from text from ∷ w) (ap words_of (drop-drop (length (word_from text from)) from text) ∙ ap (λ k. words_from text k) (sym ends))

-- The next word

-- blanks alone stand between two indices
pub record Skipped (text : List ℕ) (from at : ℕ) : Type 0 where
  pub after : from ≤ at
  pub inside : at ≤ length text
  pub same : words_from text at ≡ words_from text from

pub skip_more : {text : List ℕ} {from at : ℕ} → Skipped text from at → at < length text → is_blank (get_or text at 0) ≡ true → Skipped text from (at + 1)
skip_more {text} {from} {at} s h e = record { after = omega (arith, s.after); inside = omega arith; same = words_skip text at h e ∙ s.same }

-- the first word from an index on
pub begins_first : {text : List ℕ} {from at : ℕ} → Begins text from at → word_at (words_from text from) 0 ≡ word_from text at
begins_first {text} {from} {at} b = ap (λ w. word_at w 0) (sym b.same) ∙ go (dec_lt at (length text))
  where
    go : Dec (at < length text) → word_at (words_from text at) 0 ≡ word_from text at
    go (yes h) = ap (λ w. word_at w 0) (words_here text at (at + length (word_from text at)) refl h (b.here h))
    go (no h) = ap (λ w. word_at w 0) (words_end text at (omega arith)) ∙ sym (word_none text at (omega arith))

pub begins_rest : {text : List ℕ} {from at : ℕ} (end : ℕ) → Begins text from at → end ≡ at + length (word_from text at) → Passes text from 1 end
begins_rest {text} {from} {at} end b e = record {
  inside = word_inside text at end e b.inside;
  rest = go (dec_lt at (length text)) ∙ ap (drop 1) b.same;
}
  where
    go : Dec (at < length text) → words_from text end ≡ drop 1 (words_from text at)
    go (yes h) = sym (ap (drop 1) (words_here text at end e h (b.here h)))
    go (no h) =
        let none : length (word_from text at) ≡ 0 = ap length (word_none text at (omega arith)) in
        words_end text end (omega arith) ∙ sym (ap (drop 1) (words_end text at (omega arith)))

-- Several words

-- some of so many words are passed
pub record Passing (text : List ℕ) (count at passed : ℕ) : Type 0 where
  pub few : passed ≤ count
  pub passes : Passes text 0 passed at

pub passing_more : {text : List ℕ} {count at passed : ℕ} (end : ℕ) → Passing text count at passed → passed < count → Passes text at 1 end
    → Passing text count end (passed + 1)
passing_more {text} {count} {at} {passed} end p h q = record {
  few = omega arith;
  passes = record { inside = q.inside; rest = q.rest ∙ ap (drop 1) p.passes.rest ∙ drop-drop 1 passed (words_of text) };
}

-- at the end of the text there are no more
pub passing_end : {text : List ℕ} {count at passed : ℕ} → Passing text count at passed → at ≡ length text → Passes text 0 count at
passing_end {text} {count} {at} {passed} p e = record {
  inside = p.passes.inside;
  rest =
      let none : words_from text at ≡ [] = words_end text at (omega arith) in
      let sum : count ≡ passed + (count - passed) = omega (arith, p.few) in
      none
      ∙ sym (ap (λ k. drop k (words_of text)) sum ∙ sym (drop-drop (count - passed) passed (words_of text))
      ∙ ap (drop (count - passed)) (sym p.passes.rest ∙ none) ∙ drop-nil (count - passed));
}
