-- The bank along a loop: its bits after a step, and ticks all at once. Assumes nothing.
use mathlib.Core.Path.{◌≡◌, sym, ap, ◌∙◌}
use mathlib.Core.Bool.{◌||◌}
use Prim.Native.Nat.{ℕ, zero, suc, ◌+◌, ◌-◌, ◌/◌, ◌^◌, ◌≤◌, ◌<◌}
use native.Mathlib.Nat.{div-one, div-eq_of_lt, lt_of_lt_of_le}
use native.Mathlib.Omega.{arith}
use lib.Bits.{bit_or}
use lib.Pow.{shr-shr, pow_mono}
use Rattle.words.specs.Bits.{is_set}
use Rattle.unit.specs.declared.FunctionUnit.{FunctionUnit}
use Rattle.unit.specs.Unit.{marked}
use Rattle.collision.specs.Vector.{row_word}
use Rattle.controller.specs.declared.Bank.{Bank}
use Rattle.controller.specs.Bank.{register, empty, shifted, ticked, row_for, started}
use Rattle.controller.proofs.BankLaws.{started_bit}
use Rattle.controller.proofs.TickLaws.{Below, ticked_bit}

-- bit k after t - 1 ticks and a start of q
pub stepped_bit : (u : FunctionUnit) (q : ℕ) (b : Bank) (t r k : ℕ) → 1 ≤ t → 1 ≤ r → r ≤ 4 → r ≤ u.functions
    → is_set (register (started u q (ticked (t - 1) b)) r) k ≡ is_set (register b r) (t + k) || is_set (row_word (marked u) r q) k
stepped_bit u q b t r k p l m h =
    let e : t - 1 + (1 + k) ≡ t + k = omega arith in
    started_bit u q (ticked (t - 1) b) r k l m h
    ∙ ap (λ x. x || is_set (row_word (marked u) r q) k) (ticked_bit (t - 1) b r (1 + k) ∙ ap (is_set (register b r)) e)

-- Ticks all at once

shift_one : (x m : ℕ) → x / 2 ^ m / 2 ≡ x / 2 ^ suc m
shift_one x m = let e : m + 1 ≡ suc m = omega arith in shr-shr x m 1 ∙ ap (λ k. x / 2 ^ k) e

pub ticked_value : (m : ℕ) (b : Bank) → ticked m b ≡ record { r1 = b.r1 / 2 ^ m; r2 = b.r2 / 2 ^ m; r3 = b.r3 / 2 ^ m; r4 = b.r4 / 2 ^ m }
ticked_value zero b = λ i. record {
  r1 = sym (div-one b.r1) i;
  r2 = sym (div-one b.r2) i;
  r3 = sym (div-one b.r3) i;
  r4 = sym (div-one b.r4) i;
}
ticked_value (suc m) b =
    ap shifted (ticked_value m b)
    ∙ (λ i. record {
      r1 = shift_one b.r1 m i;
      r2 = shift_one b.r2 m i;
      r3 = shift_one b.r3 m i;
      r4 = shift_one b.r4 m i;
    })

-- a start after t - 1 ticks: each register t places on, OR its row
pub started_value : (u : FunctionUnit) (q t : ℕ) (b : Bank) → 1 ≤ t → started u q (ticked (t - 1) b) ≡ record {
  r1 = bit_or (b.r1 / 2 ^ t) (row_for u q 1);
  r2 = bit_or (b.r2 / 2 ^ t) (row_for u q 2);
  r3 = bit_or (b.r3 / 2 ^ t) (row_for u q 3);
  r4 = bit_or (b.r4 / 2 ^ t) (row_for u q 4);
}
started_value u q t b h =
    let e : suc (t - 1) ≡ t = omega arith in
    let same : (x : ℕ) → x / 2 ^ (t - 1) / 2 ≡ x / 2 ^ t = λ x. shift_one x (t - 1) ∙ ap (λ k. x / 2 ^ k) e in
    ap (started u q) (ticked_value (t - 1) b)
    ∙ (λ i. record {
      r1 = bit_or (same b.r1 i) (row_for u q 1);
      r2 = bit_or (same b.r2 i) (row_for u q 2);
      r3 = bit_or (same b.r3 i) (row_for u q 3);
      r4 = bit_or (same b.r4 i) (row_for u q 4);
    })

-- after n ticks or more the bank is empty
gone : (n m x : ℕ) → x < 2 ^ n → n ≤ m → x / 2 ^ m ≡ 0
gone n m x h k = div-eq_of_lt (lt_of_lt_of_le h (pow_mono k))

pub ticked_empty : (n m : ℕ) (b : Bank) → Below n b → n ≤ m → ticked m b ≡ empty
ticked_empty n m b h k =
    ticked_value m b
    ∙ (λ i. record {
      r1 = gone n m b.r1 h.r1 k i;
      r2 = gone n m b.r2 h.r2 k i;
      r3 = gone n m b.r3 h.r3 k i;
      r4 = gone n m b.r4 h.r4 k i;
    })
