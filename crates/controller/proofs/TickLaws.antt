-- Ticks: the bits of a bank after some of them, and that a bank brought from empty by the unit's events has no bit from n on. Assumes nothing.
use Rattle.std.proofs.Common.{Ok, Err}
use mathlib.Core.Path.{◌≡◌, refl, sym, ap, ◌∙◌}
use mathlib.Core.Bool.{Bool, true, false, cond}
use Prim.Native.Nat.{ℕ, zero, suc, ◌+◌, ◌-◌, ◌/◌, ◌%◌, ◌^◌, ◌≤◌, ◌<◌}
use native.Mathlib.Nat.{zero-add}
use native.Mathlib.Omega.{arith}
use lib.Bits.{or_lt}
use lib.Dec.{eqb, leb}
use lib.Pow.{pow_pos}
use borrow.Author.Tests.{eqb-true, eq-eqb}
use Rattle.words.specs.Bits.{bit, is_set}
use Rattle.words.proofs.BitLaws.{bit_zero, unset_zero, zero_unset, bit_above}
use Rattle.unit.specs.declared.FunctionUnit.{FunctionUnit}
use Rattle.unit.specs.Answers.{Answer}
use Rattle.unit.specs.Unit.{marked, sound_of}
use Rattle.unit.proofs.Laws.{within, sound_has}
use Rattle.collision.specs.Vector.{row_word, largest_column}
use Rattle.collision.proofs.MatrixLaws.{row_below}
use Rattle.controller.specs.declared.Bank.{Bank}
use Rattle.controller.specs.declared.Event.{Event}
use Rattle.controller.specs.declared.Event.TheVariants.{Tick, Start}
use Rattle.controller.specs.Bank.{register, empty, shifted, ticked, row_for, started, granted, event_answer, moved, bank_then, step_of}
use Rattle.controller.proofs.BankLaws.{shifted_bit}
use Rattle.controller.proofs.StepLaws.{step_done, start_accepted}

-- a tick is never refused where the unit is sound, and shifts the bank

module _ (u : FunctionUnit) (sound : sound_of u ≡ true) where
  pub tick_answered : (b : Bank) → event_answer u b Tick ≡ Ok tt
  unfolding event_answer
  tick_answered b = simp sound

  pub tick_shifts : (b : Bank) → (step_of u b Tick).bank ≡ shifted b
  unfolding moved
  tick_shifts b = sym (ap (λ r. r.bank) (step_done u b Tick (tick_answered b)))

-- the first of some ticks, or the last
pub ticked_shifted : (m : ℕ) (b : Bank) → ticked m (shifted b) ≡ ticked (suc m) b
ticked_shifted zero b = refl
ticked_shifted (suc m) b = ap shifted (ticked_shifted m b)

-- bit k after m ticks is what bit m + k was
pub ticked_bit : (m : ℕ) (b : Bank) (r k : ℕ) → is_set (register (ticked m b) r) k ≡ is_set (register b r) (m + k)
ticked_bit zero b r k = ap (is_set (register b r)) (sym (zero-add k))
ticked_bit (suc m) b r k =
    let e : m + (1 + k) ≡ suc m + k = omega arith in
    shifted_bit (ticked m b) r k ∙ ticked_bit m b r (1 + k) ∙ ap (is_set (register b r)) e

-- a start is granted after t - 1 ticks exactly where bit t - 1 is 0
pub granted_bit : (b : Bank) (t q : ℕ) → granted (ticked (t - 1) b) q ≡ true → is_set (register b q) (t - 1) ≡ false
granted_bit b t q g =
    let w : ℕ = register (ticked (t - 1) b) q in
    let z : bit w 0 ≡ 0 = bit_zero w ∙ eqb-true (w % 2) 0 g in
    let e : t - 1 + 0 ≡ t - 1 = omega arith in
    ap (is_set (register b q)) (sym e) ∙ sym (ticked_bit (t - 1) b q 0) ∙ zero_unset w 0 z

pub bit_granted : (b : Bank) (t q : ℕ) → is_set (register b q) (t - 1) ≡ false → granted (ticked (t - 1) b) q ≡ true
bit_granted b t q f =
    let w : ℕ = register (ticked (t - 1) b) q in
    let e : t - 1 + 0 ≡ t - 1 = omega arith in
    let z : is_set w 0 ≡ false = ticked_bit (t - 1) b q 0 ∙ ap (is_set (register b q)) e ∙ f in
    eq-eqb (w % 2) 0 (sym (bit_zero w) ∙ unset_zero w 0 z)

-- No bit from n on

-- every register is below 2 ^ n
pub record Below (n : ℕ) (b : Bank) : Type 0 where
  pub r1 : b.r1 < 2 ^ n
  pub r2 : b.r2 < 2 ^ n
  pub r3 : b.r3 < 2 ^ n
  pub r4 : b.r4 < 2 ^ n

pub row_for_below : (u : FunctionUnit) (q r : ℕ) → q < 5 → r < 5 → row_for u q r < 2 ^ largest_column (marked u)
unfolding row_for
row_for_below u q r h k = go (leb r u.functions)
  where
    go : (b : Bool) → cond b (row_word (marked u) r q) 0 < 2 ^ largest_column (marked u)
    go true = row_below (marked u) r q k h
    go false = pow_pos (largest_column (marked u))

shifted_lt : (n x : ℕ) → x < 2 ^ n → x / 2 < 2 ^ n
shifted_lt n x h = omega arith

pub shifted_below : (n : ℕ) (b : Bank) → Below n b → Below n (shifted b)
shifted_below n b h = record {
  r1 = shifted_lt n b.r1 h.r1;
  r2 = shifted_lt n b.r2 h.r2;
  r3 = shifted_lt n b.r3 h.r3;
  r4 = shifted_lt n b.r4 h.r4;
}

pub ticked_below : (n m : ℕ) (b : Bank) → Below n b → Below n (ticked m b)
ticked_below n zero b h = h
ticked_below n (suc m) b h = shifted_below n (ticked m b) (ticked_below n m b h)

pub started_below : (u : FunctionUnit) (q : ℕ) (b : Bank) → q < 5 → Below (largest_column (marked u)) b → Below (largest_column (marked u)) (started u q b)
started_below u q b h r =
    let n : ℕ = largest_column (marked u) in
    record {
      r1 = or_lt n (b.r1 / 2) (row_for u q 1) (shifted_lt n b.r1 r.r1) (row_for_below u q 1 h (omega arith));
      r2 = or_lt n (b.r2 / 2) (row_for u q 2) (shifted_lt n b.r2 r.r2) (row_for_below u q 2 h (omega arith));
      r3 = or_lt n (b.r3 / 2) (row_for u q 3) (shifted_lt n b.r3 r.r3) (row_for_below u q 3 h (omega arith));
      r4 = or_lt n (b.r4 / 2) (row_for u q 4) (shifted_lt n b.r4 r.r4) (row_for_below u q 4 h (omega arith));
    }

pub empty_below : (n : ℕ) → Below n empty
empty_below n = record { r1 = pow_pos n; r2 = pow_pos n; r3 = pow_pos n; r4 = pow_pos n }

pub register_below : (n : ℕ) (b : Bank) (q : ℕ) → Below n b → register b q < 2 ^ n
unfolding register
register_below n b q h = go (eqb q 1) (eqb q 2) (eqb q 3) (eqb q 4)
  where
    go : (x y z w : Bool) → cond x b.r1 (cond y b.r2 (cond z b.r3 (cond w b.r4 0))) < 2 ^ n
    go true y z w = h.r1
    go false true z w = h.r2
    go false false true w = h.r3
    go false false false true = h.r4
    go false false false false = pow_pos n

-- every event of a sound unit keeps it
pub step_below : (u : FunctionUnit) (b : Bank) (e : Event) → sound_of u ≡ true → Below (largest_column (marked u)) b
    → Below (largest_column (marked u)) (step_of u b e).bank
unfolding step_of moved
step_below u b e sound below = go e (event_answer u b e) refl
  where
    go : (e : Event) (a : Answer) → event_answer u b e ≡ a → Below (largest_column (marked u)) (bank_then a b (moved u b e))
    go e (Err why) p = below
    go Tick (Ok _) p = shifted_below (largest_column (marked u)) b below
    go (Start q) (Ok _) p =
        started_below u q.0 b
        (omega (arith, (within q.0 u.functions (start_accepted u b q p).tag).most, (within u.functions 4 (sound_has u sound).functions).most)) below

-- after n ticks or more every start is granted
pub granted_late : (n m : ℕ) (b : Bank) (q : ℕ) → Below n b → n ≤ m → granted (ticked m b) q ≡ true
granted_late n m b q below h =
    let e : m + 1 - 1 ≡ m = omega arith in
    ap (λ k. granted (ticked k b) q) (sym e)
    ∙ bit_granted b (m + 1) q (ap (is_set (register b q)) e ∙ zero_unset _ m (bit_above (register b q) n m (register_below n b q below) h))
