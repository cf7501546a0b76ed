-- The numbers of words as bytes, put in front of lent bytes one by one. Assumes nothing.
use mathlib.Core.Path.{◌≡◌, refl, sym, ap, ap₂, ◌∙◌}
use mathlib.Core.Bool.{false}
use mathlib.Core.List.{List, [], ◌∷◌, ◌++◌, append_assoc}
use Prim.Native.Nat.{ℕ, suc, ◌+◌, ◌≤◌, ◌<◌, min}
use native.Mathlib.Numerals.{add-one}
use native.Mathlib.Omega.{arith}
use lib.ListN.{length, get_or, set, take, drop, length-append, length-drop, drop_of_length-le, get_or-map}
use lib.Seq.{take-suc, take_all, drop-cons, set_at, length-take-le}
use Rattle.words.specs.Bytes.{narrow}
use Rattle.command.specs.Lines.{is_blank, number_said, narrowed, in_front}
use Rattle.command.specs.Inner.{word_from, words_from, Begins}
use Rattle.command.proofs.WordLaws.{part, word_part, word_some, words_end, words_here}
use Rattle.command.proofs.ScanLaws.{number_none}

-- The first n bytes of one list in front of another

front_more : (l b : List ℕ) (n : ℕ) → n < length l → n < length b → set (take n l ++ drop n b) n (get_or l n 0) ≡ take (n + 1) l ++ drop (n + 1) b
front_more l b n h g =
    ap (λ x. set (take n l ++ x) n (get_or l n 0)) (drop-cons b n 0 g)
    ∙ set_at (take n l) (get_or b n 0) (drop (suc n) b) (get_or l n 0) n (length-take-le n l (omega arith))
    ∙ sym (append_assoc (take n l) (get_or l n 0 ∷ []) (drop (suc n) b))
    ∙ ap (λ x. x ++ drop (suc n) b) (sym (take-suc l n 0 h))
    ∙ ap (λ k. take k l ++ drop k b) (sym (add-one n))

-- the whole list, and as much of it as there is room for
front_whole : (l b : List ℕ) (n : ℕ) → n ≡ length l → n ≤ length b → take n l ++ drop n b ≡ in_front l b
front_whole l b n e h =
    ap₂ (λ (x y : List ℕ). x ++ y) (take_all n l (omega arith) ∙ sym (take_all (length b) l (omega arith))) (ap (λ k. drop k b) e)

front_full : (l b : List ℕ) (n : ℕ) → n ≡ length b → n ≤ length l → take n l ++ drop n b ≡ in_front l b
front_full l b n e h =
    ap₂ (λ (x y : List ℕ). x ++ y) (ap (λ k. take k l) e) (drop_of_length-le b {i = n} (omega arith) ∙ sym (drop_of_length-le b {i = length l} (omega arith)))

narrowed_length : (words : List (List ℕ)) → length (narrowed words) ≡ length words
narrowed_length [] = refl
narrowed_length (w ∷ words) = ap suc (narrowed_length words)

narrowed_at : (words : List (List ℕ)) (n : ℕ) → get_or (narrowed words) n 0 ≡ narrow (number_said (get_or words n []))
narrowed_at words n = ap (get_or (narrowed words) n) (sym (ap narrow number_none)) ∙ get_or-map (λ word. narrow (number_said word)) words n []

-- Along the text

-- the numbers of the words before an index, at which one begins or the text ends, are in front
pub record Filled (text : List ℕ) (from : ℕ) (bytes list : List ℕ) (count at : ℕ) : Type 0 where
  pub room : count ≤ length bytes
  pub known : count ≤ length (words_from text from)
  pub inside : at ≤ length text
  pub here : at < length text → is_blank (get_or text at 0) ≡ false
  pub rest : words_from text at ≡ drop count (words_from text from)
  pub front : list ≡ take count (narrowed (words_from text from)) ++ drop count bytes

pub fill_start : {text : List ℕ} {from at : ℕ} (bytes : List ℕ) → Begins text from at → Filled text from bytes bytes 0 at
fill_start bytes b = record { room = omega arith; known = omega arith; inside = b.inside; here = b.here; rest = b.same; front = refl }

pub fill_length : {text : List ℕ} {from : ℕ} {bytes list : List ℕ} {count at : ℕ} → Filled text from bytes list count at → length list ≡ length bytes
fill_length {text} {from} {bytes} {list} {count} f =
    let l : List ℕ = narrowed (words_from text from) in
    ap length f.front ∙ length-append (take count l) (drop count bytes)
    ∙ omega (arith, length-take-le count l (omega (arith, narrowed_length (words_from text from), f.known)), length-drop count bytes, f.room)

pub fill_more : {text : List ℕ} {from : ℕ} {bytes list : List ℕ} {count at start : ℕ} (end byte : ℕ) → Filled text from bytes list count at
    → at < length text → count < length bytes → end ≡ at + length (word_from text at) → byte ≡ narrow (number_said (part at end text)) → Begins text end start
    → Filled text from bytes (set list count byte) (count + 1) start
fill_more {text} {from} {bytes} {list} {count} {at} {start} end byte f h g e b s =
    let words : List (List ℕ) = words_from text from in
    let word : List ℕ = word_from text at in
    let read : part at end text ≡ word = word_part text at end e in
    let next : drop count words ≡ word ∷ words_from text end = sym f.rest ∙ words_here text at end e h (f.here h) in
    let some : length (drop count words) ≡ suc (length (words_from text end)) = ap length next in
    let within : count < length words = omega (arith, length-drop count words) in
    let place : drop count words ≡ get_or words count [] ∷ drop (suc count) words = drop-cons words count [] within in
    let first : get_or words count [] ≡ word = cc in
    let others : words_from text end ≡ drop (suc count) words = cc in
    let stored : byte ≡ get_or (narrowed words) count 0 = b ∙ ap (λ w. narrow (number_said w)) (read ∙ sym first) ∙ sym (narrowed_at words count) in
    record {
      room = omega arith;
      known = omega arith;
      inside = s.inside;
      here = s.here;
      rest = s.same ∙ others ∙ ap (λ k. drop k words) (sym (add-one count));
      front =
          ap (λ x. set x count byte) f.front ∙ ap (set (take count (narrowed words) ++ drop count bytes) count) stored
          ∙ front_more (narrowed words) bytes count (omega (arith, narrowed_length words)) g;
    }

-- each turn goes on
pub fill_on : {text : List ℕ} {from : ℕ} {bytes list : List ℕ} {count at start : ℕ} (end : ℕ) → Filled text from bytes list count at → at < length text
    → end ≡ at + length (word_from text at) → Begins text end start → at < start
fill_on {text} {at = at} end f h e b = omega (arith, word_some text at end e h (f.here h), b.after)

-- no word is left, or no room
pub fill_end : {text : List ℕ} {from : ℕ} {bytes list : List ℕ} {count at : ℕ} → Filled text from bytes list count at → length text ≤ at
    → (count ≡ min (length (narrowed (words_from text from))) (length bytes)) × (list ≡ in_front (narrowed (words_from text from)) bytes)
fill_end {text} {from} {bytes} {list} {count} {at} f h =
    let words : List (List ℕ) = words_from text from in
    let none : length (drop count words) ≡ 0 = ap length (sym f.rest ∙ words_end text at h) in
    let all : count ≡ length (narrowed words) = omega (arith, length-drop count words, narrowed_length words, f.known) in
    (omega (arith, f.room), f.front ∙ front_whole (narrowed words) bytes count all f.room)

pub fill_full : {text : List ℕ} {from : ℕ} {bytes list : List ℕ} {count at : ℕ} → Filled text from bytes list count at → count ≡ length bytes
    → (count ≡ min (length (narrowed (words_from text from))) (length bytes)) × (list ≡ in_front (narrowed (words_from text from)) bytes)
fill_full {text} {from} {bytes} {list} {count} f e =
    let words : List (List ℕ) = words_from text from in
    let some : count ≤ length (narrowed words) = omega (arith, narrowed_length words, f.known) in
    (omega arith, f.front ∙ front_full (narrowed words) bytes count e some)
