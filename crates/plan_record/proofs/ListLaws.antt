-- Lists of bytes made one by one: over lent bytes, and compared with them. Assumes nothing.
use Prim.Native.Nat.{ℕ, ◌+◌, ◌<◌}
use mathlib.Core.Path.{◌≡◌, refl, sym, ap, ◌∙◌}
use mathlib.Core.Bool.{true, false, ◌&&◌}
use mathlib.Core.List.{List, [], ◌∷◌, ◌++◌}
use native.Mathlib.Numerals.{add-one}
use native.Mathlib.Omega.{arith}
use lib.Dec.{eqb}
use lib.ListN.{length, get_or, set, replicate}
use Rattle.std.specs.List.{list_all}
use lib.Seq.{ext_get_or}
use Rattle.words.specs.Below.{list_below}
use Rattle.words.proofs.ListLaws.{list_length, list_at}
use Rattle.text.specs.Text.{same, placed}
use Rattle.text.proofs.SameLaws.{same_of, not_same}
use Rattle.text.proofs.PutLaws.{placed_none, placed_more}

-- Byte by byte

-- all agree with what f says
pub all_same : (b : List ℕ) (f : ℕ → ℕ) → ((k : ℕ) → k < length b → get_or b k 0 ≡ f k) → same b (list_below (length b) f) ≡ true
all_same b f h =
    same_of b (list_below (length b) f)
    (ext_get_or 0 b (list_below (length b) f) (sym (list_length (length b) f)) (λ k l. h k l ∙ sym (list_at (length b) f k l)))

-- one differs
pub one_differs : (b : List ℕ) (f : ℕ → ℕ) (k : ℕ) → k < length b → (f k ≡ get_or b k 0 → ⊥) → same b (list_below (length b) f) ≡ false
one_differs b f k h n = not_same b (list_below (length b) f) (λ e. n (sym (list_at (length b) f k h) ∙ ap (λ l. get_or l k 0) (sym e)))

pub one_more : (j : ℕ) (f : ℕ → ℕ) → list_below (j + 1) f ≡ list_below j f ++ (f j ∷ [])
unfolding list_below
one_more j f = ap (λ k. list_below k f) (add-one j)

pub list_none : (b : List ℕ) (at : ℕ) (f : ℕ → ℕ) → b ≡ placed b at (list_below 0 f)
unfolding list_below
list_none b at f = sym (placed_none b at)

-- one byte more stands in the lent bytes
pub list_more : (b : List ℕ) (at j : ℕ) (f : ℕ → ℕ) → at + j < length b → set (placed b at (list_below j f)) (at + j) (f j) ≡ placed b at (list_below (j + 1) f)
list_more b at j f h =
    let n : length (list_below j f) ≡ j = list_length j f in
    ap (λ k. set (placed b at (list_below j f)) (at + k) (f j)) (sym n)
    ∙ placed_more b at (list_below j f) (f j) (omega arith)
    ∙ ap (placed b at) (sym (one_more j f))

-- Zeros

-- whether all are 0
pub zeros : (b : List ℕ) → list_all (λ x. eqb x 0) b ≡ same b (replicate (length b) 0)
unfolding same
zeros [] = refl
zeros (x ∷ b) = ap (λ s. eqb x 0 && s) (zeros b)
