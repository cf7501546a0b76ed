-- A list whose front is overwritten, element by element. Assumes nothing.
use mathlib.Core.Path.{◌≡◌, sym, ap, ◌∙◌}
use mathlib.Core.List.{List, [], ◌∷◌, ◌++◌, append_assoc}
use Prim.Native.Nat.{ℕ, suc, ◌+◌, ◌≤◌, ◌<◌}
use native.Mathlib.Nat.{le_of_lt}
use native.Mathlib.Numerals.{add-one}
use native.Mathlib.Omega.{arith}
use lib.ListN.{length, get_or, set, take, drop, length-append, length-drop}
use lib.Seq.{drop-cons, take-suc, set_at, length-take-le}

-- the first i elements are those of `new`, the others those of `old`
abbrev pub front : List ℕ → List ℕ → ℕ → List ℕ
front new old i = take i new ++ drop i old

pub front_length : (new old : List ℕ) (i : ℕ) → i ≤ length new → i ≤ length old → length (front new old i) ≡ length old
front_length new old i h l = rw (length-append (take i new) (drop i old), length-take-le i new h, length-drop i old) (omega arith)

-- the next element is written
pub front_more : (new old : List ℕ) (i : ℕ) → i < length new → i < length old → set (front new old i) i (get_or new i 0) ≡ front new old (i + 1)
front_more new old i h l =
    ap (λ x. set (take i new ++ x) i (get_or new i 0)) (drop-cons old i 0 l)
    ∙ set_at (take i new) (get_or old i 0) (drop (suc i) old) (get_or new i 0) i (length-take-le i new (le_of_lt h))
    ∙ sym (append_assoc (take i new) (get_or new i 0 ∷ []) (drop (suc i) old))
    ∙ ap (λ x. x ++ drop (suc i) old) (sym (take-suc new i 0 h))
    ∙ ap (λ k. take k new ++ drop k old) (sym (add-one i))
