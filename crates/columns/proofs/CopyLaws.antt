-- A function's words are copied one by one. Assumes nothing.
use Prim.Native.Nat.{ℕ, ◌+◌, ◌<◌, ◌≤◌}
use mathlib.Core.Path.{◌≡◌, ◌∙◌, sym}
use mathlib.Core.List.{List}
use native.Mathlib.Omega.{arith}
use native.Mathlib.Decide.{ℕ_discrete}
use lib.ListN.{length, get_or, set, take, drop, length-take, length-drop}
use lib.Seq.{get_or-set_same, get_or-set_other, ext_get_or, get_or-take, get_or-drop}

-- the first i words of `columns` are those of `marks` from `first` on
abbrev pub Copied : List ℕ → List ℕ → ℕ → ℕ → Type 0
Copied columns marks first i = (j : ℕ) → j < i → get_or columns j 0 ≡ get_or marks (first + j) 0

pub copied_more : (columns marks : List ℕ) (first i : ℕ) → i < length columns → Copied columns marks first i
    → Copied (set columns i (get_or marks (first + i) 0)) marks first (i + 1)
copied_more columns marks first i h f j l = go (ℕ_discrete j i)
  where
    go : Dec (j ≡ i) → get_or (set columns i (get_or marks (first + i) 0)) j 0 ≡ get_or marks (first + j) 0
    go (yes e) = rw (e, get_or-set_same columns i (get_or marks (first + i) 0) 0 h)
    go (no ne) = get_or-set_other columns i j (get_or marks (first + i) 0) 0 ne ∙ f j (omega arith)

part_length : (marks : List ℕ) (first : ℕ) → first + 32 ≤ length marks → length (take 32 (drop first marks)) ≡ 32
part_length marks first h = rw (length-take 32 (drop first marks), length-drop first marks) (omega arith)

pub copied_all : (columns marks : List ℕ) (first : ℕ) → length columns ≡ 32 → first + 32 ≤ length marks → Copied columns marks first 32
    → columns ≡ take 32 (drop first marks)
copied_all columns marks first n h f =
    ext_get_or 0 columns (take 32 (drop first marks)) (n ∙ sym (part_length marks first h))
    (λ k l. f k (omega (arith, n)) ∙ sym (get_or-drop first marks k 0) ∙ sym (get_or-take 32 (drop first marks) k 0 (omega (arith, n))))
