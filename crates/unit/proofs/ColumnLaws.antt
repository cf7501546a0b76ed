-- The marks of a function by column: they are the unit's table. Assumes nothing.
use Prim.Native.Nat.{ℕ, ◌-◌, ◌*◌, ◌≤◌}
use mathlib.Core.Path.{◌≡◌, ap, ◌∙◌, sym}
use mathlib.Core.Bool.{cond, ◌&&◌}
use native.Mathlib.Omega.{arith}
use lib.ListN.{get_or, take, drop, replicate}
use lib.Seq.{get_or-take, get_or-drop}
use Rattle.words.specs.Bits.{is_set}
use Rattle.unit.specs.declared.FunctionUnit.{FunctionUnit}
use Rattle.unit.specs.Unit.{word_at, marked, columns_of}
use Rattle.unit.proofs.Laws.{inside_of, somewhere_of}

-- word c - 1 of a function's columns is the unit's word of column c
pub columns_word_lem : (u : FunctionUnit) (q c : ℕ) → 1 ≤ q → q ≤ 4 → 1 ≤ c → c ≤ 32 → get_or (columns_of u q) (c - 1) 0 ≡ word_at u q c
unfolding columns_of
columns_word_lem u q c q1 q4 c1 c32 = ap (λ l. get_or l (c - 1) 0) chosen ∙ here
  where
    here : get_or (take 32 (drop ((q - 1) * 32) u.marks)) (c - 1) 0 ≡ word_at u q c
    here = get_or-take 32 (drop ((q - 1) * 32) u.marks) (c - 1) 0 (omega arith) ∙ get_or-drop ((q - 1) * 32) u.marks (c - 1) 0

    chosen : columns_of u q ≡ take 32 (drop ((q - 1) * 32) u.marks)
    chosen = ap (λ b. cond b (take 32 (drop ((q - 1) * 32) u.marks)) (replicate 32 0)) (inside_of q 4 q1 q4)

-- column c of a function has the unit's marks
pub columns_marked : (u : FunctionUnit) (q s c : ℕ) → 1 ≤ q → q ≤ 4 → 1 ≤ s → s ≤ 16 → 1 ≤ c → c ≤ 32
    → marked u q s c ≡ is_set (get_or (columns_of u q) (c - 1) 0) (s - 1)
unfolding marked
columns_marked u q s c q1 q4 s1 s16 c1 c32 =
    ap (λ b. b && is_set (word_at u q c) (s - 1)) (somewhere_of q s c q1 q4 s1 s16 c1 c32)
    ∙ ap (λ w. is_set w (s - 1)) (sym (columns_word_lem u q c q1 q4 c1 c32))
