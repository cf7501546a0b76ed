-- Text put over lent bytes from an index on: where it fits, how long the bytes stay, and text put after text. Assumes nothing.
use mathlib.Core.Path.{◌≡◌, sym, ap, ◌∙◌}
use mathlib.Core.List.{List, [], ◌∷◌, ◌++◌, append_assoc}
use Prim.Native.Nat.{ℕ, ◌+◌, ◌≤◌, ◌<◌}
use native.Mathlib.Nat.{zero-add, add-zero}
use native.Mathlib.Numerals.{add-one}
use native.Mathlib.Omega.{arith}
use borrow.Author.Tests.{le-leb, lt-leb}
use lib.ListN.{length, take, drop, set, length-append, length-drop, take-append-drop}
use lib.Seq.{length-take-le, take_at, drop-append-add, drop-drop, set_split}
use Rattle.text.specs.Text.{placed, put_in, put_end}

-- Where it fits

pub put_fits : (bytes : List ℕ) (at : ℕ) (text : List ℕ) → at + length text ≤ length bytes → put_in bytes at text ≡ placed bytes at text
unfolding put_in
put_fits bytes at text h = rw (le-leb (at + length text) (length bytes) h)

pub put_fits_end : (bytes : List ℕ) (at : ℕ) (text : List ℕ) → at + length text ≤ length bytes → put_end bytes at text ≡ at + length text
unfolding put_end
put_fits_end bytes at text h = rw (le-leb (at + length text) (length bytes) h)

pub put_not : (bytes : List ℕ) (at : ℕ) (text : List ℕ) → length bytes < at + length text → put_in bytes at text ≡ bytes
unfolding put_in
put_not bytes at text h = rw (lt-leb (at + length text) (length bytes) h)

pub put_not_end : (bytes : List ℕ) (at : ℕ) (text : List ℕ) → length bytes < at + length text → put_end bytes at text ≡ at
unfolding put_end
put_not_end bytes at text h = rw (lt-leb (at + length text) (length bytes) h)

-- what `put` answers and leaves of text that does not fit
pub put_left_out : (bytes : List ℕ) (at : ℕ) (text : List ℕ) → length bytes < at + length text
    → (at ≡ put_end bytes at text) × (bytes ≡ put_in bytes at text)
put_left_out bytes at text h = (sym (put_not_end bytes at text h), sym (put_not bytes at text h))

-- The bytes with the text in them

pub placed_none : (bytes : List ℕ) (at : ℕ) → placed bytes at [] ≡ bytes
placed_none bytes at = ap (λ k. take at bytes ++ drop k bytes) (add-zero at) ∙ take-append-drop at bytes

pub placed_front : (bytes text : List ℕ) → placed bytes 0 text ≡ text ++ drop (length text) bytes
placed_front bytes text = ap (λ k. text ++ drop k bytes) (zero-add (length text))

-- what stands before the end of the text
head_length : (bytes : List ℕ) (at : ℕ) (text : List ℕ) → at ≤ length bytes → length (take at bytes ++ text) ≡ at + length text
head_length bytes at text h = length-append (take at bytes) text ∙ ap (λ k. k + length text) (length-take-le at bytes h)

pub placed_length : (bytes : List ℕ) (at : ℕ) (text : List ℕ) → at + length text ≤ length bytes → length (placed bytes at text) ≡ length bytes
placed_length bytes at text h =
    ap length (sym (append_assoc (take at bytes) text (drop (at + length text) bytes)))
    ∙ length-append (take at bytes ++ text) (drop (at + length text) bytes)
    ∙ rw (head_length bytes at text (omega arith), length-drop (at + length text) bytes) (omega arith)

-- text put after text
pub placed_placed : (bytes : List ℕ) (at : ℕ) (a b : List ℕ) → at + length (a ++ b) ≤ length bytes → placed (placed bytes at a) (at + length a) b ≡ placed bytes at (a ++ b)
placed_placed bytes at a b h =
    let l : length (a ++ b) ≡ length a + length b = length-append a b in
    let head : List ℕ = take at bytes ++ a in
    let rest : List ℕ = drop (at + length a) bytes in
    let hl : length head ≡ at + length a = head_length bytes at a (omega arith) in
    let end : at + length a + length b ≡ at + length (a ++ b) = omega arith in
    let split : placed bytes at a ≡ head ++ rest = sym (append_assoc (take at bytes) a rest) in
    let front : take (at + length a) (head ++ rest) ≡ head = take_at head rest (at + length a) hl in
    let back : drop (at + length a + length b) (head ++ rest) ≡ drop (at + length (a ++ b)) bytes =
    ap (λ k. drop (k + length b) (head ++ rest)) (sym hl)
    ∙ drop-append-add head rest (length b)
    ∙ drop-drop (length b) (at + length a) bytes
    ∙ ap (λ k. drop k bytes) end
    in
    ap (λ x. placed x (at + length a) b) split
    ∙ ap (λ x. x ++ (b ++ drop (at + length a + length b) (head ++ rest))) front
    ∙ ap (λ x. head ++ (b ++ x)) back
    ∙ append_assoc (take at bytes) a (b ++ drop (at + length (a ++ b)) bytes)
    ∙ ap (λ x. take at bytes ++ x) (sym (append_assoc a b (drop (at + length (a ++ b)) bytes)))

-- one byte is stored
pub placed_one : (bytes : List ℕ) (at byte : ℕ) → at < length bytes → set bytes at byte ≡ placed bytes at (byte ∷ [])
placed_one bytes at byte h = set_split bytes at byte h ∙ ap (λ k. take at bytes ++ (byte ∷ drop k bytes)) (sym (add-one at))

-- one byte is stored after the text
pub placed_more : (bytes : List ℕ) (at : ℕ) (text : List ℕ) (byte : ℕ) → at + length text < length bytes
    → set (placed bytes at text) (at + length text) byte ≡ placed bytes at (text ++ (byte ∷ []))
placed_more bytes at text byte h =
    let l : length (text ++ (byte ∷ [])) ≡ length text + 1 = length-append text (byte ∷ []) in
    let k : length (placed bytes at text) ≡ length bytes = placed_length bytes at text (omega arith) in
    placed_one (placed bytes at text) (at + length text) byte (omega arith) ∙ placed_placed bytes at text (byte ∷ []) (omega arith)
