-- The words after the name of a command, one by one: which are numbers, how many they are, and the first three numbers. Assumes nothing.
use mathlib.Core.Path.{◌≡◌, refl, sym, ap, ◌∙◌}
use mathlib.Core.Bool.{Bool, true, false, cond, ◌&&◌}
use mathlib.Core.List.{List, [], ◌∷◌}
use Prim.Native.Nat.{ℕ, suc, ◌+◌, ◌-◌, ◌≤◌, ◌<◌}
use native.Mathlib.Omega.{arith}
use borrow.Author.Tests.{ne_eqb}
use lib.Dec.{eqb}
use lib.ListN.{length, get_or, take}
use Rattle.command.specs.declared.scan.Scan.{Scan}
use Rattle.command.specs.Lines.{is_blank, is_number, number_said, all_numbers}
use Rattle.command.specs.Inner.{word_from, words_from, Begins, noted, with_word, before_last, scanned}
use Rattle.command.proofs.WordLaws.{part, word_part, word_some, words_end, words_here}

-- a scan by its six parts
abbrev scan : Bool → Bool → ℕ → ℕ → ℕ → ℕ → Scan
scan good front count first second third = record { good = good; front = front; count = count; first = first; second = second; third = third }

same_scan : {g h j k : Bool} {m n a b d e x y : ℕ} → g ≡ h → j ≡ k → m ≡ n → a ≡ b → d ≡ e → x ≡ y → scan g j m a d x ≡ scan h k n b e y
same_scan p f q r s t = λ i. scan (p i) (f i) (q i) (r i) (s i) (t i)

-- no word yet
abbrev pub no_words_lem : Scan
no_words_lem = scan true true 0 0 0 0

-- more words
abbrev pub scan_from : Scan → List (List ℕ) → Scan
scan_from s [] = s
scan_from s (w ∷ words) = scan_from (with_word s w) words

pub all_cons : (w : List ℕ) (words : List (List ℕ)) → all_numbers (w ∷ words) ≡ is_number w && all_numbers words
unfolding all_numbers
all_cons w words = refl

pub all_none : all_numbers [] ≡ true
unfolding all_numbers
all_none = refl

pub number_none : number_said [] ≡ 0
unfolding number_said is_number
number_none = refl

and_one : (a : Bool) → a && true ≡ a
and_one true = refl
and_one false = refl

and_assoc : (a b d : Bool) → (a && b) && d ≡ a && (b && d)
and_assoc true b d = refl
and_assoc false b d = refl

-- the words in front of the last, one by one
front_one : (w : List ℕ) → all_numbers (before_last (w ∷ [])) ≡ true
front_one w = all_none

front_cons : (w v : List ℕ) (words : List (List ℕ)) → all_numbers (before_last (w ∷ v ∷ words)) ≡ is_number w && all_numbers (before_last (v ∷ words))
front_cons w v words =
    let one : length (w ∷ v ∷ words) - 1 ≡ suc (length (v ∷ words) - 1) = omega arith in
    ap (λ k. all_numbers (take k (w ∷ v ∷ words))) one ∙ all_cons w (before_last (v ∷ words))

-- whether the words in front of the last are numbers, after more words
abbrev front_after : Bool → Bool → List (List ℕ) → Bool
front_after front good [] = front
front_after front good (w ∷ words) = good && all_numbers (before_last (w ∷ words))

front_step : (g : Bool) (w : List ℕ) (words : List (List ℕ)) → front_after g (g && is_number w) words ≡ g && all_numbers (before_last (w ∷ words))
front_step g w [] = sym (ap (λ t. g && t) (front_one w) ∙ and_one g)
front_step g w (v ∷ words) =
    and_assoc g (is_number w) (all_numbers (before_last (v ∷ words))) ∙ ap (λ t. g && t) (sym (front_cons w v words))

-- the first three numbers stay
later : (g f : Bool) (n a b d : ℕ) (words : List (List ℕ)) → 3 ≤ n
    → scan_from (scan g f n a b d) words ≡ scan (g && all_numbers words) (front_after f g words) (n + length words) a b d
later g f n a b d [] h = same_scan (sym (ap (λ t. g && t) all_none ∙ and_one g)) refl (omega arith) refl refl refl
later g f n a b d (w ∷ words) h =
    let t₀ : eqb n 0 ≡ false = ne_eqb n 0 (λ e. omega arith) in
    let t₁ : eqb n 1 ≡ false = ne_eqb n 1 (λ e. omega arith) in
    let t₂ : eqb n 2 ≡ false = ne_eqb n 2 (λ e. omega arith) in
    ap (λ s. scan_from s words)
    (same_scan {g = g && is_number w} {j = g} {m = n + 1} refl refl refl (ap (λ t. cond t (number_said w) a) t₀) (ap (λ t. cond t (number_said w) b) t₁) (ap (λ t. cond t (number_said w) d) t₂))
    ∙ later (g && is_number w) g (n + 1) a b d words (omega arith)
    ∙ same_scan (and_assoc g (is_number w) (all_numbers words) ∙ ap (λ t. g && t) (sym (all_cons w words))) (front_step g w words) (omega arith) refl refl refl

-- all words, one after the other
pub scan_all : (words : List (List ℕ)) → scan_from no_words_lem words ≡ scanned words
scan_all [] = same_scan (sym all_none) (sym all_none) refl (sym number_none) (sym number_none) (sym number_none)
scan_all (a ∷ []) =
    same_scan (sym (all_cons a [] ∙ ap (λ t. is_number a && t) all_none ∙ and_one (is_number a))) (sym (front_one a)) refl refl (sym number_none) (sym number_none)
scan_all (a ∷ b ∷ []) =
    same_scan
    (sym (all_cons a (b ∷ []) ∙ ap (λ t. is_number a && t) (all_cons b [] ∙ ap (λ t. is_number b && t) all_none ∙ and_one (is_number b))))
    (sym (front_cons a b [] ∙ ap (λ t. is_number a && t) (front_one b) ∙ and_one (is_number a)))
    refl
    refl
    refl
    (sym number_none)
scan_all (a ∷ b ∷ d ∷ words) =
    later ((is_number a && is_number b) && is_number d) (is_number a && is_number b) 3 (number_said a) (number_said b) (number_said d) words (omega arith)
    ∙ same_scan
    (and_assoc (is_number a && is_number b) (is_number d) (all_numbers words) ∙ and_assoc (is_number a) (is_number b) (is_number d && all_numbers words)
    ∙ sym (all_cons a (b ∷ d ∷ words) ∙ ap (λ t. is_number a && t) (all_cons b (d ∷ words) ∙ ap (λ t. is_number b && t) (all_cons d words))))
    (front_step (is_number a && is_number b) d words ∙ and_assoc (is_number a) (is_number b) (all_numbers (before_last (d ∷ words)))
    ∙ sym (front_cons a b (d ∷ words) ∙ ap (λ t. is_number a && t) (front_cons b d words)))
    (omega arith)
    refl
    refl
    refl

-- Along the text

-- the words before an index, at which one begins or the text ends, are noted
pub record Scanned (text : List ℕ) (from : ℕ) (words : Scan) (at : ℕ) : Type 0 where
  pub few : words.count ≤ at
  pub inside : at ≤ length text
  pub here : at < length text → is_blank (get_or text at 0) ≡ false
  pub rest : scan_from words (words_from text at) ≡ scanned (words_from text from)

pub scan_start : {text : List ℕ} {from at : ℕ} → Begins text from at → Scanned text from no_words_lem at
scan_start {text} {from} {at} b = record {
  few = omega arith;
  inside = b.inside;
  here = b.here;
  rest = scan_all (words_from text at) ∙ ap scanned b.same;
}

pub scan_more : {text : List ℕ} {from : ℕ} {words : Scan} {at start : ℕ} (end : ℕ) (next : Scan) → Scanned text from words at → at < length text
    → end ≡ at + length (word_from text at) → next ≡ with_word words (part at end text) → Begins text end start → Scanned text from next start
scan_more {text} {from} {words} {at} {start} end next s h e n b =
    let step : next ≡ with_word words (word_from text at) = n ∙ ap (with_word words) (word_part text at end e) in
    record {
      few = omega (arith, ap (λ (x : Scan). x.count) step, s.few, word_some text at end e h (s.here h), b.after);
      inside = b.inside;
      here = b.here;
      rest =
          ap (scan_from next) b.same ∙ ap (λ x. scan_from x (words_from text end)) step
          ∙ ap (scan_from words) (sym (words_here text at end e h (s.here h))) ∙ s.rest;
    }

-- each turn goes on
pub scan_on : {text : List ℕ} {from : ℕ} {words : Scan} {at start : ℕ} (end : ℕ) → Scanned text from words at → at < length text
    → end ≡ at + length (word_from text at) → Begins text end start → at < start
scan_on {text} {at = at} end s h e b = omega (arith, word_some text at end e h (s.here h), b.after)

pub scan_end : {text : List ℕ} {from : ℕ} {words : Scan} {at : ℕ} → Scanned text from words at → length text ≤ at → words ≡ scanned (words_from text from)
scan_end {text} {from} {words} {at} s h = sym (ap (scan_from words) (words_end text at h)) ∙ s.rest

-- One word

-- a number, and another word
pub noted_number : (s : Scan) (word : List ℕ) (n : ℕ) → is_number word ≡ true → n ≡ number_said word → noted s s.good n ≡ with_word s word
noted_number s word n t e = ap (noted s s.good) e ∙ ap (λ b. noted s b (number_said word)) (sym (ap (λ b. s.good && b) t ∙ and_one s.good))

pub noted_other : (s : Scan) (word : List ℕ) → is_number word ≡ false → 0 ≡ number_said word → noted s false 0 ≡ with_word s word
noted_other s word t e = ap (noted s false) e ∙ ap (λ b. noted s b (number_said word)) (sym (ap (λ b. s.good && b) t ∙ and_zero s.good))
  where
    and_zero : (a : Bool) → a && false ≡ false
    and_zero true = refl
    and_zero false = refl

pub noted_parts : (s : Scan) (good : Bool) (n : ℕ) {a b d : ℕ} → a ≡ cond (eqb s.count 0) n s.first → b ≡ cond (eqb s.count 1) n s.second
    → d ≡ cond (eqb s.count 2) n s.third → scan good s.good (s.count + 1) a b d ≡ noted s good n
noted_parts s good n p q r = same_scan refl refl refl p q r
