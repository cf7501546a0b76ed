-- Text copied over lent bytes one byte at a time. Assumes nothing.
use mathlib.Core.Path.{◌≡◌, sym, ap, ◌∙◌}
use mathlib.Core.List.{List}
use Prim.Native.Nat.{ℕ, ◌+◌, ◌≤◌, ◌<◌}
use native.Mathlib.Numerals.{add-one}
use native.Mathlib.Omega.{arith}
use lib.ListN.{length, get_or, set, take}
use lib.Seq.{length-take-le, take-suc, take-length}
use Rattle.text.specs.Text.{placed}
use Rattle.text.proofs.PutLaws.{placed_none, placed_length, placed_more}

-- the bytes once the first `i` bytes of the text are copied
abbrev pub copied : List ℕ → ℕ → List ℕ → ℕ → List ℕ
copied bytes at text i = placed bytes at (take i text)

pub copied_start : (bytes : List ℕ) (at : ℕ) (text : List ℕ) → bytes ≡ copied bytes at text 0
copied_start bytes at text = sym (placed_none bytes at)

module _ (bytes : List ℕ) (at : ℕ) (text : List ℕ) (fits : at + length text ≤ length bytes) where
  pub copied_length : (i : ℕ) → i ≤ length text → length (copied bytes at text i) ≡ length bytes
  copied_length i h = let l : length (take i text) ≡ i = length-take-le i text h in placed_length bytes at (take i text) (omega arith)

  pub copied_more : (i : ℕ) → i < length text → set (copied bytes at text i) (at + i) (get_or text i 0) ≡ copied bytes at text (i + 1)
  copied_more i h =
      let l : length (take i text) ≡ i = length-take-le i text (omega arith) in
      ap (λ k. set (copied bytes at text i) (at + k) (get_or text i 0)) (sym l)
      ∙ placed_more bytes at (take i text) (get_or text i 0) (omega arith)
      ∙ ap (placed bytes at) (sym (take-suc text i 0 h))
      ∙ ap (copied bytes at text) (sym (add-one i))

pub copied_end : (bytes : List ℕ) (at : ℕ) (text : List ℕ) → copied bytes at text (length text) ≡ placed bytes at text
copied_end bytes at text = ap (placed bytes at) (take-length text)
