-- The number that a word says, read digit by digit. Assumes nothing.
use Rattle.std.proofs.Common.{Some, None}
use mathlib.Core.Path.{◌≡◌, refl, sym, ap, ◌∙◌}
use mathlib.Core.Bool.{Bool, true, false, cond, ◌&&◌}
use mathlib.Core.List.{List, [], ◌∷◌, foldl}
use Prim.Native.Nat.{ℕ, suc, ◌+◌, ◌-◌, ◌*◌, ◌≤◌, ◌<◌}
use native.Mathlib.Numerals.{add-one}
use native.Mathlib.Omega.{arith}
use borrow.Author.Tests.{le-leb, lt-leb}
use lib.Dec.{leb}
use lib.ListN.{length, get_or, drop, drop_of_length-le}
use lib.Seq.{drop-cons}
use Rattle.words.proofs.Tests.{and_true}
use Rattle.text.specs.Text.{value}
use Rattle.command.specs.Lines.{is_digit, digits_only, is_number, number_said}
use Rattle.command.specs.Inner.{numeral}

-- the number that digits say after those that say v
abbrev value_from : ℕ → List ℕ → ℕ
value_from v bytes = foldl (λ v b. v * 10 + (b - 48)) v bytes

-- the digits so far say no more than all of them
value_grows : (v : ℕ) (bytes : List ℕ) → v ≤ value_from v bytes
value_grows v [] = omega arith
value_grows v (b ∷ bytes) = omega (arith, value_grows (v * 10 + (b - 48)) bytes)

-- the bytes of a word before an index are digits, and say a number
pub record Read (word : List ℕ) (i number : ℕ) : Type 0 where
  pub inside : i ≤ length word
  pub small : number ≤ 4294967295
  pub digits : digits_only word ≡ digits_only (drop i word)
  pub says : value word ≡ value_from number (drop i word)

pub read_start : (word : List ℕ) → Read word 0 0
unfolding value
read_start word = record { inside = omega arith; small = omega arith; digits = refl; says = refl }

digit_true : (b : ℕ) → 48 ≤ b → b ≤ 57 → is_digit b ≡ true
digit_true b l h = and_true (le-leb 48 b l) (le-leb b 57 h)

digits_cons : (b : ℕ) (word : List ℕ) → digits_only (b ∷ word) ≡ is_digit b && digits_only word
unfolding digits_only
digits_cons b word = refl

read_says : {word : List ℕ} {i number : ℕ} → Read word i number → i < length word
    → value word ≡ value_from (number * 10 + (get_or word i 0 - 48)) (drop (i + 1) word)
read_says {word} {i} {number} r h =
    r.says ∙ ap (value_from number) (drop-cons word i 0 h) ∙ ap (λ k. value_from (number * 10 + (get_or word i 0 - 48)) (drop k word)) (sym (add-one i))

read_digits : {word : List ℕ} {i number : ℕ} → Read word i number → i < length word
    → digits_only word ≡ is_digit (get_or word i 0) && digits_only (drop (i + 1) word)
read_digits {word} {i} r h =
    r.digits ∙ ap digits_only (drop-cons word i 0 h) ∙ digits_cons (get_or word i 0) (drop (suc i) word)
    ∙ ap (λ k. is_digit (get_or word i 0) && digits_only (drop k word)) (sym (add-one i))

-- one digit more
pub read_more : {word : List ℕ} {i number : ℕ} → Read word i number → i < length word → 48 ≤ get_or word i 0 → get_or word i 0 ≤ 57
    → number * 10 + (get_or word i 0 - 48) ≤ 4294967295 → Read word (i + 1) (number * 10 + (get_or word i 0 - 48))
read_more {word} {i} r h l m s = record {
  inside = omega arith;
  small = s;
  digits = read_digits r h ∙ ap (λ t. t && digits_only (drop (i + 1) word)) (digit_true (get_or word i 0) l m);
  says = read_says r h;
}

-- What it says

number_other : (word : List ℕ) → is_number word ≡ false → None ≡ numeral word
number_other word e = rw e

-- an empty word
pub other_empty : (word : List ℕ) → length word ≡ 0 → None ≡ numeral word
unfolding is_number
other_empty word e = number_other word (ap (λ t. t && (digits_only word && leb (value word) 4294967295)) (lt-leb 1 (length word) (omega arith)))

and_false : (a b d : Bool) → b ≡ false → a && (b && d) ≡ false
and_false true b d e = rw e
and_false false b d e = refl

and_last : (a b d : Bool) → d ≡ false → a && (b && d) ≡ false
and_last true true d e = e
and_last true false d e = refl
and_last false b d e = refl

other_digits : (word : List ℕ) → digits_only word ≡ false → None ≡ numeral word
unfolding is_number
other_digits word e = number_other word (and_false (leb 1 (length word)) (digits_only word) (leb (value word) 4294967295) e)

-- a byte below the digits, and one above them
pub other_below : {word : List ℕ} {i number : ℕ} → Read word i number → i < length word → get_or word i 0 < 48 → None ≡ numeral word
other_below {word} {i} r h l =
    let e : leb 48 (get_or word i 0) ≡ false = lt-leb 48 (get_or word i 0) l in
    other_digits word (read_digits r h ∙ ap (λ t. (t && leb (get_or word i 0) 57) && digits_only (drop (i + 1) word)) e)

pub other_above : {word : List ℕ} {i number : ℕ} → Read word i number → i < length word → 57 < get_or word i 0 → None ≡ numeral word
other_above {word} {i} r h l =
    let e : leb (get_or word i 0) 57 ≡ false = lt-leb (get_or word i 0) 57 l in
    let g : leb 48 (get_or word i 0) ≡ true = le-leb 48 (get_or word i 0) (omega arith) in
    other_digits word (read_digits r h ∙ ap (λ t. (t && leb (get_or word i 0) 57) && digits_only (drop (i + 1) word)) g ∙ ap (λ t. t && digits_only (drop (i + 1) word)) e)

-- too large a number
pub other_large : {word : List ℕ} {i number : ℕ} → Read word i number → i < length word → 4294967295 < number * 10 + (get_or word i 0 - 48)
    → None ≡ numeral word
unfolding is_number
other_large {word} {i} {number} r h l =
    let g = value_grows (number * 10 + (get_or word i 0 - 48)) (drop (i + 1) word) in
    let e : leb (value word) 4294967295 ≡ false = lt-leb (value word) 4294967295 (omega (arith, read_says r h)) in
    number_other word (and_last (leb 1 (length word)) (digits_only word) (leb (value word) 4294967295) e)

number_true : (word : List ℕ) → 1 ≤ length word → digits_only word ≡ true → value word ≤ 4294967295 → is_number word ≡ true
unfolding is_number
number_true word l d v = and_true (le-leb 1 (length word) l) (and_true d (le-leb (value word) 4294967295 v))

-- all bytes are digits
pub read_end : {word : List ℕ} {i number : ℕ} → Read word i number → length word ≤ i → 1 ≤ length word → Some number ≡ numeral word
unfolding digits_only
read_end {word} {i} {number} r h l =
    let none : drop i word ≡ [] = drop_of_length-le word h in
    let v : value word ≡ number = r.says ∙ ap (value_from number) none in
    let d : digits_only word ≡ true = r.digits ∙ ap digits_only none in
    let t : is_number word ≡ true = number_true word l d (omega (arith, r.small)) in
    rw (t, v)

-- What a caller learns

told_number : (t : Bool) (v n : ℕ) → Some n ≡ cond t (Some v) None → (t ≡ true) × (n ≡ cond t v 0)
told_number true v n e = (refl, cc)
told_number false v n e = let z : ◌≡◌ {A = ℕ} 0 1 = cc in absurd (omega arith)

told_other : (t : Bool) (v : ℕ) → None ≡ cond t (Some v) None → (t ≡ false) × (0 ≡ cond t v 0)
told_other true v e = let z : ◌≡◌ {A = ℕ} 0 1 = cc in absurd (omega arith)
told_other false v e = (refl, refl)

pub number_told_lem : (word : List ℕ) (n : ℕ) → Some n ≡ numeral word → (is_number word ≡ true) × (n ≡ number_said word)
unfolding number_said
number_told_lem word n e = told_number (is_number word) (value word) n e

pub other_told : (word : List ℕ) → None ≡ numeral word → (is_number word ≡ false) × (0 ≡ number_said word)
unfolding number_said
other_told word e = told_other (is_number word) (value word) e

-- A number in decimal is one

-- bytes that are digits, one by one
pub digits_each : (word : List ℕ) → ((i : ℕ) → i < length word → (48 ≤ get_or word i 0) × (get_or word i 0 ≤ 57)) → digits_only word ≡ true
unfolding digits_only
digits_each [] each = refl
digits_each (b ∷ word) each =
    and_true (digit_true b (each 0 (omega arith)).0 (each 0 (omega arith)).1) (digits_each word (λ i h. each (suc i) (omega arith)))

pub number_is : (word : List ℕ) → 1 ≤ length word → digits_only word ≡ true → value word ≤ 4294967295 → (is_number word ≡ true) × (number_said word ≡ value word)
unfolding number_said
number_is word l d v = let t = number_true word l d v in (t, rw t)
