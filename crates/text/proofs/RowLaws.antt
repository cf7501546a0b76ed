-- The columns of a word, and numbers each after a space: written one by one, and whether they fit. Assumes nothing.
use mathlib.Core.Path.{◌≡◌, sym, ap, ◌∙◌}
use mathlib.Core.Bool.{true, false}
use mathlib.Core.Logic.{◌⊎◌, inl, inr}
use mathlib.Core.List.{List, [], ◌∷◌, ◌++◌}
use Prim.Native.Nat.{ℕ, zero, suc, ◌+◌, ◌-◌, ◌*◌, ◌^◌, ◌≤◌, ◌<◌}
use native.Mathlib.Nat.{eq-or-lt_of_le, le_of_suc-le-suc, not-suc-le-zero, mul-suc}
use native.Mathlib.Decide.{ℕ_discrete}
use native.Mathlib.Numerals.{add-one}
use native.Mathlib.Omega.{arith}
use borrow.Author.Tests.{eqb-true, eq-eqb, ne_eqb, le-leb, lt-leb}
use lib.Dec.{leb}
use lib.ListN.{length, get_or, set, length-append, length-set}
use Rattle.std.proofs.Common.{map}
use Rattle.std.proofs.lemmas.List.{get_or-map}
use Rattle.words.specs.Bits.{bit, is_set}
use Rattle.words.specs.Below.{list_below, join_below}
use Rattle.words.proofs.BitLaws.{unset_zero}
use Rattle.words.proofs.ListLaws.{list_length}
use Rattle.words.proofs.JoinLaws.{join_more}
use Rattle.text.specs.Text.{ascii, digit, decimal, column_text, vector_text, spaced, placed, put_in, put_end}
use Rattle.text.specs.Wrote.{Wrote}
use Rattle.text.proofs.DecimalLaws.{decimal_length}
use Rattle.text.proofs.WroteLaws.{wrote_start, wrote_length, wrote_more, wrote_byte}

-- the same text in other words
pub wrote_as : {before : List ℕ} {at : ℕ} {a b after : List ℕ} {end : ℕ} → Wrote before at a after end → a ≡ b → Wrote before at b after end
wrote_as w e = rw e at w

-- Columns of a word

-- the byte of the column that stands at place i among n
abbrev pub column : ℕ → ℕ → ℕ → ℕ
column n w i = digit (bit w (n - 1 - i))

pub column_one : (w k : ℕ) → is_set w k ≡ true → 49 ≡ digit (bit w k)
column_one w k h = rw (eqb-true (bit w k) 1 h)

pub column_zero : (w k : ℕ) → is_set w k ≡ false → 48 ≡ digit (bit w k)
column_zero w k h = rw (unset_zero w k h)

pub columns_length : (n w : ℕ) → length (column_text n w) ≡ n
unfolding column_text
columns_length n w = list_length n (column n w)

-- a word with no columns is a dash
vector_none : (n w : ℕ) → n ≡ 0 → ascii "-" ≡ vector_text n w
vector_none n w h = rw (eq-eqb n 0 h)

-- what `put` answers and leaves of the dash
pub vector_dash : (before : List ℕ) (at : ℕ) {after : List ℕ} {end : ℕ} (n w : ℕ) → n ≡ 0
    → (end ≡ put_end before at (ascii "-")) × (after ≡ put_in before at (ascii "-"))
    → (end ≡ put_end before at (vector_text n w)) × (after ≡ put_in before at (vector_text n w))
vector_dash before at n w h p =
    let e : ascii "-" ≡ vector_text n w = vector_none n w h in
    (p.0 ∙ ap (put_end before at) e, p.1 ∙ ap (put_in before at) e)

pub vector_some : (n w : ℕ) → (n ≡ 0 → ⊥) → column_text n w ≡ vector_text n w
vector_some n w h = rw (ne_eqb n 0 h)

pub vector_length : (n w : ℕ) → (n ≡ 0 → ⊥) → length (vector_text n w) ≡ n
vector_length n w h = ap length (sym (vector_some n w h)) ∙ columns_length n w

-- at most k bytes
pub vector_most : (n w k : ℕ) → 1 ≤ k → n ≤ k → length (vector_text n w) ≤ k
vector_most n w k s h = go (ℕ_discrete n 0)
  where
    go : Dec (n ≡ 0) → length (vector_text n w) ≤ k
    go (yes e) = rw (eq-eqb n 0 e) s
    go (no e) = omega (arith, vector_length n w e)

-- the columns of a word are written, the first `i` so far
pub columns_start : (before : List ℕ) (at n w : ℕ) → at ≤ length before → Wrote before at (list_below 0 (column n w)) before at
unfolding list_below
columns_start before at n w h = wrote_start before at h

-- the index after them
pub columns_next : {before : List ℕ} {at : ℕ} {mid : List ℕ} {e : ℕ} (n w i : ℕ) → Wrote before at (list_below i (column n w)) mid e → e ≡ at + i
columns_next {at = at} n w i p = p.next ∙ ap (λ k. at + k) (list_length i (column n w))

list_more : (n : ℕ) (f : ℕ → ℕ) → list_below n f ++ (f n ∷ []) ≡ list_below (n + 1) f
unfolding list_below
list_more n f = ap (λ k. list_below k f) (sym (add-one n))

pub columns_more : {before : List ℕ} {at : ℕ} {mid : List ℕ} {e : ℕ} (n w i : ℕ) (byte : ℕ) → byte ≡ column n w i → at + n ≤ length before → i < n
    → Wrote before at (list_below i (column n w)) mid e → Wrote before at (list_below (i + 1) (column n w)) (set mid e byte) (e + 1)
columns_more n w i byte b room l p =
    rw b (wrote_as (wrote_byte (column n w i) p (omega (arith, columns_next n w i p))) (list_more i (column n w)))

pub columns_end : {before : List ℕ} {at : ℕ} {after : List ℕ} {end : ℕ} (n w i : ℕ) → i ≡ n
    → Wrote before at (list_below i (column n w)) after end → Wrote before at (column_text n w) after end
unfolding column_text
columns_end n w i e p = rw e at p

-- Numbers, each after a space

-- number i with its space
abbrev pub spaced_at : List ℕ → ℕ → List ℕ
spaced_at numbers i = ascii " " ++ decimal (get_or numbers i 0)

-- an element of a list of what has numbers, and its number
pub number_at : {A : Type 0} (f : A → ℕ) (xs : List A) (i : ℕ) (x : A) (number : ℕ) → i < length xs → x ≡ get_or xs i x → number ≡ f x
    → number ≡ get_or (map f xs) i 0
number_at f xs i x number h at e = e ∙ ap f at ∙ sym (get_or-map f xs i x 0 h)

-- the first n numbers
pub first_spaced : List ℕ → ℕ → List ℕ
first_spaced numbers n = join_below n (spaced_at numbers)

first_more : (numbers : List ℕ) (i : ℕ) → first_spaced numbers i ++ spaced_at numbers i ≡ first_spaced numbers (i + 1)
unfolding first_spaced
first_more numbers i = sym (join_more i (spaced_at numbers))

pub first_length : (numbers : List ℕ) (i : ℕ) → length (first_spaced numbers (i + 1)) ≡ length (first_spaced numbers i) + (length (decimal (get_or numbers i 0)) + 1)
first_length numbers i =
    ap length (sym (first_more numbers i)) ∙ length-append (first_spaced numbers i) (spaced_at numbers i) ∙ omega arith

first_all : (numbers : List ℕ) (n : ℕ) → n ≡ length numbers → first_spaced numbers n ≡ spaced numbers
unfolding first_spaced spaced
first_all numbers n e = rw e

-- the list after the first i stands among n
join_room : (n : ℕ) (f : ℕ → List ℕ) (i : ℕ) → i < n → length (join_below i f) + length (f i) ≤ length (join_below n f)
unfolding join_below
join_room zero f i h = absurd (not-suc-le-zero h)
join_room (suc n) f i h = pick (eq-or-lt_of_le (le_of_suc-le-suc h)) (join_room n f i)
  where
    l : length (join_below n f ++ f n) ≡ length (join_below n f) + length (f n)
    l = length-append (join_below n f) (f n)

    pick : (i ≡ n) ⊎ (i < n) → (i < n → length (join_below i f) + length (f i) ≤ length (join_below n f))
        → length (join_below i f) + length (f i) ≤ length (join_below n f ++ f n)
    pick (inl e) r = rw e (omega (arith, l))
    pick (inr o) r = omega (arith, l, r o)

join_most : (n m : ℕ) (f : ℕ → List ℕ) → ((i : ℕ) → i < n → length (f i) ≤ m) → length (join_below n f) ≤ m * n
unfolding join_below
join_most zero m f h = omega arith
join_most (suc n) m f h =
    omega (arith, length-append (join_below n f) (f n), join_most n m f (λ i l. h i (omega arith)), h n (omega arith), mul-suc m n)

-- numbers of at most k digits each
pub spaced_most : (numbers : List ℕ) (k : ℕ) → 1 ≤ k → ((i : ℕ) → i < length numbers → get_or numbers i 0 < 10 ^ k)
    → length (spaced numbers) ≤ (k + 1) * length numbers
unfolding spaced
spaced_most numbers k s h =
    join_most (length numbers) (k + 1) (spaced_at numbers) (λ i l. omega (arith, decimal_length (get_or numbers i 0) k s (h i l)))

pub first_room : (numbers : List ℕ) (i : ℕ) → i < length numbers
    → length (first_spaced numbers i) + length (spaced_at numbers i) ≤ length (spaced numbers)
unfolding first_spaced spaced
first_room numbers i h = join_room (length numbers) (spaced_at numbers) i h

-- a space is stored, and the digits are put after it
pub spaced_one : {before : List ℕ} {at : ℕ} {after : List ℕ} {end : ℕ} (n : ℕ) → at + length (ascii " " ++ decimal n) ≤ length before
    → (end ≡ at + 1 + length (decimal n)) × (after ≡ placed (set before at 32) (at + 1) (decimal n)) → Wrote before at (ascii " " ++ decimal n) after end
spaced_one {before} {at} n room p =
    let space : Wrote before at (ascii " ") (set before at 32) (at + 1) = wrote_byte 32 (wrote_start before at (omega arith)) (omega arith) in
    wrote_more space record { bytes = p.1; next = p.0; room = omega (arith, length-set before at 32) }

-- how many bytes are left of the room after the first i
pub left_start : (numbers : List ℕ) (room : ℕ) → room + length (first_spaced numbers 0) ≡ room
unfolding first_spaced join_below
left_start numbers room = omega arith

-- the next one does not fit
pub left_short : (numbers : List ℕ) (room left i : ℕ) → i < length numbers → left + length (first_spaced numbers i) ≡ room
    → left ≤ length (decimal (get_or numbers i 0)) → false ≡ leb (length (spaced numbers)) room
left_short numbers room left i h e s = sym (lt-leb (length (spaced numbers)) room (omega (arith, first_room numbers i h)))

pub left_more : (numbers : List ℕ) (room left i count : ℕ) → left + length (first_spaced numbers i) ≡ room
    → count ≡ length (decimal (get_or numbers i 0)) → count < left → (left - count - 1) + length (first_spaced numbers (i + 1)) ≡ room
left_more numbers room left i count e c l = omega (arith, first_length numbers i)

-- all of them fit
pub left_end : (numbers : List ℕ) (room left i : ℕ) → i ≡ length numbers → left + length (first_spaced numbers i) ≡ room
    → true ≡ leb (length (spaced numbers)) room
left_end numbers room left i e l =
    let all : length (first_spaced numbers i) ≡ length (spaced numbers) = ap length (first_all numbers i e) in
    sym (le-leb (length (spaced numbers)) room (omega arith))

-- the first i are written
pub row_start : (before : List ℕ) (at : ℕ) (numbers : List ℕ) → at ≤ length before → Wrote before at (first_spaced numbers 0) before at
unfolding first_spaced join_below
row_start before at numbers h = wrote_start before at h

-- room for the next
pub row_room : {before : List ℕ} {at : ℕ} {mid : List ℕ} {e : ℕ} (numbers : List ℕ) (i : ℕ) → i < length numbers
    → at + length (spaced numbers) ≤ length before → Wrote before at (first_spaced numbers i) mid e → e + length (spaced_at numbers i) ≤ length mid
row_room numbers i h room p = omega (arith, first_room numbers i h, p.next, wrote_length p)

pub row_more : {before : List ℕ} {at : ℕ} {mid : List ℕ} {e : ℕ} {after : List ℕ} {end : ℕ} (numbers : List ℕ) (i : ℕ)
    → Wrote before at (first_spaced numbers i) mid e → Wrote mid e (spaced_at numbers i) after end → Wrote before at (first_spaced numbers (i + 1)) after end
row_more numbers i p q = wrote_as (wrote_more p q) (first_more numbers i)

pub row_end : {before : List ℕ} {at : ℕ} {after : List ℕ} {end : ℕ} (numbers : List ℕ) (i : ℕ) → i ≡ length numbers
    → Wrote before at (first_spaced numbers i) after end → Wrote before at (spaced numbers) after end
row_end numbers i e p = wrote_as p (first_all numbers i e)
