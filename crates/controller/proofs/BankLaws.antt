-- The bits of the registers after an accepted event. Assumes nothing.
use Prim.Native.Nat.{ℕ, zero, suc, ◌+◌, ◌-◌, ◌/◌, ◌≤◌}
use mathlib.Core.Path.{◌≡◌, refl, ap, ◌∙◌}
use mathlib.Core.Bool.{Bool, true, false, cond, ◌||◌}
use mathlib.Core.Logic.{◌↔◌}
use native.Mathlib.Omega.{arith}
use lib.Bits.{bit_or}
use lib.Dec.{eqb}
use borrow.Author.Tests.{le-leb}
use Rattle.words.specs.Bits.{is_set}
use Rattle.words.proofs.Tests.{cond_same}
use Rattle.words.proofs.BitLaws.{bit_of_zero, bit_shr, set_or, zero_unset}
use Rattle.unit.specs.declared.FunctionUnit.{FunctionUnit}
use Rattle.unit.specs.Unit.{marked}
use Rattle.collision.specs.Pipeline.{Collides}
use Rattle.collision.specs.Vector.{row_word}
use Rattle.collision.proofs.VectorLaws.{marked_bounded, row_bit}
use Rattle.controller.specs.declared.Bank.{Bank}
use Rattle.controller.specs.Bank.{register, empty, shifted, row_for, started}

-- Registers

register_empty : (r : ℕ) → register empty r ≡ 0
unfolding register
register_empty r = simp cond_same

register_shifted : (b : Bank) (r : ℕ) → register (shifted b) r ≡ register b r / 2
unfolding register
register_shifted b r = go (eqb r 1) (eqb r 2) (eqb r 3) (eqb r 4)
  where
    go : (x y z w : Bool) → cond x (b.r1 / 2) (cond y (b.r2 / 2) (cond z (b.r3 / 2) (cond w (b.r4 / 2) 0)))
        ≡ cond x b.r1 (cond y b.r2 (cond z b.r3 (cond w b.r4 0))) / 2
    go true y z w = refl
    go false true z w = refl
    go false false true w = refl
    go false false false true = refl
    go false false false false = refl

register_started : (u : FunctionUnit) (q : ℕ) (b : Bank) (r : ℕ) → 1 ≤ r → r ≤ 4
    → register (started u q b) r ≡ bit_or (register b r / 2) (row_for u q r)
unfolding register
register_started u q b zero l m = absurd (omega arith)
register_started u q b (suc zero) l m = refl
register_started u q b (suc (suc zero)) l m = refl
register_started u q b (suc (suc (suc zero))) l m = refl
register_started u q b (suc (suc (suc (suc zero)))) l m = refl
register_started u q b (suc (suc (suc (suc (suc r))))) l m = absurd (omega arith)

row_tag : (u : FunctionUnit) (q r : ℕ) → r ≤ u.functions → row_for u q r ≡ row_word (marked u) r q
unfolding row_for
row_tag u q r h = ap (λ t. cond t (row_word (marked u) r q) 0) (le-leb r u.functions h)

-- Bits

pub empty_bit : (r k : ℕ) → is_set (register empty r) k ≡ false
empty_bit r k = ap (λ w. is_set w k) (register_empty r) ∙ zero_unset 0 k (bit_of_zero k)

-- bit k is what bit k + 1 was
pub shifted_bit : (b : Bank) (r k : ℕ) → is_set (register (shifted b) r) k ≡ is_set (register b r) (1 + k)
shifted_bit b r k = ap (λ w. is_set w k) (register_shifted b r) ∙ ap (λ n. eqb n 1) (bit_shr (register b r) 1 k)

-- or what the row of the task has
pub started_bit : (u : FunctionUnit) (q : ℕ) (b : Bank) (r k : ℕ) → 1 ≤ r → r ≤ 4 → r ≤ u.functions
    → is_set (register (started u q b) r) k ≡ is_set (register b r) (1 + k) || is_set (row_word (marked u) r q) k
started_bit u q b r k l m h =
    ap (λ w. is_set w k) (register_started u q b r l m ∙ ap (bit_or (register b r / 2)) (row_tag u q r h))
    ∙ set_or (register b r / 2) (row_word (marked u) r q) k
    ∙ ap (λ n. eqb n 1 || is_set (row_word (marked u) r q) k) (bit_shr (register b r) 1 k)

-- bit k of a row of the unit's table says that the latency k + 1 collides
pub row_says : (u : FunctionUnit) (q r k : ℕ) → (is_set (row_word (marked u) q r) k ≡ true) ↔ Collides (marked u) q r (k + 1)
row_says u q r k =
    let e : k + 1 - 1 ≡ k = omega arith in
    rw e at (row_bit (marked u) (marked_bounded u) q r (k + 1) (omega arith))
