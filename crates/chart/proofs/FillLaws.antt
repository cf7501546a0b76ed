-- Bytes written one by one, the value of a function at each number. Assumes nothing.
use Prim.Native.Nat.{ℕ, ◌+◌, ◌≤◌, ◌<◌}
use mathlib.Core.Path.{◌≡◌, ap₂, ◌∙◌}
use mathlib.Core.List.{List, ◌++◌}
use native.Mathlib.Omega.{arith}
use lib.ListN.{length, get_or, take, drop, set, get_or-append}
use lib.Seq.{length-take-le, get_or-take}
use Rattle.words.specs.Below.{list_below}
use Rattle.words.proofs.ListLaws.{list_length}
use Rattle.text.specs.Text.{placed}
use Rattle.text.specs.Wrote.{Wrote}
use Rattle.plan_record.proofs.ListLaws.{list_more}

-- one byte more
pub filled_more : (before : List ℕ) (at : ℕ) (f : ℕ → ℕ) (i byte : ℕ) (now : List ℕ) → now ≡ placed before at (list_below i f) → at + i < length before → byte ≡ f i
    → set now (at + i) byte ≡ placed before at (list_below (i + 1) f)
filled_more before at f i byte now w h e = ap₂ (λ (x : List ℕ) (y : ℕ). set x (at + i) y) w e ∙ list_more before at i f h

pub filled_wrote : (before : List ℕ) (at n : ℕ) (f : ℕ → ℕ) (now : List ℕ) → at + n ≤ length before → now ≡ placed before at (list_below n f)
    → Wrote before at (list_below n f) now (at + n)
filled_wrote before at n f now h w = record { bytes = w; next = omega (arith, list_length n f); room = omega (arith, list_length n f) }

-- the bytes before are as they were
pub placed_before : (bytes : List ℕ) (at : ℕ) (text : List ℕ) (k : ℕ) → k < at → at ≤ length bytes → get_or (placed bytes at text) k 0 ≡ get_or bytes k 0
placed_before bytes at text k h l =
    get_or-append (take at bytes) (text ++ drop (at + length text) bytes) 0 k (omega (arith, length-take-le at bytes l)) ∙ get_or-take at bytes k 0 h
