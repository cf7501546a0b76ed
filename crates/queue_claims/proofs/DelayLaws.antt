-- After how many ticks a bank grants a start, and when the records that wait start. Assumes nothing.
use Prim.Native.Nat.{ℕ, zero, suc, ◌+◌, ◌-◌, ◌*◌, ◌≤◌, ◌<◌}
use mathlib.Core.Path.{◌≡◌, ap, ◌∙◌, sym}
use mathlib.Core.Bool.{Bool, true, false}
use mathlib.Core.List.{List, [], ◌∷◌}
use native.Mathlib.Omega.{arith}
use native.Mathlib.Nat.{suc-mul}
use lib.ListN.{length, take}
use Rattle.words.specs.Below.{least_from}
use Rattle.words.proofs.Tests.{nowhere, and_left, and_right}
use Rattle.words.proofs.BelowLaws.{least_skips, least_le, least_passes, least_is}
use Rattle.unit.specs.declared.FunctionUnit.{FunctionUnit}
use Rattle.unit.specs.Unit.{inside, marked, sound_of}
use Rattle.unit.proofs.Laws.{within, sound_has}
use Rattle.collision.specs.Vector.{largest_column}
use Rattle.collision.proofs.MatrixLaws.{largest_31}
use Rattle.controller.specs.declared.Bank.{Bank}
use Rattle.controller.specs.Bank.{shifted, ticked, started, granted}
use Rattle.controller.proofs.TickLaws.{Below, ticked_shifted, ticked_below, started_below, granted_late}
use Rattle.queue.specs.declared.Waiting.{Waiting}
use Rattle.queue.specs.Line.{tags_inside}
use Rattle.queue_claims.specs.Claims.{delay, due_unit}

-- Registers without a bit from n on

abbrev pub Low : FunctionUnit → Bank → Type 0
Low u b = Below (largest_column (marked u)) b

pub low_started : (u : FunctionUnit) (q : ℕ) (b : Bank) → sound_of u ≡ true → inside q u.functions ≡ true → Low u b → Low u (started u q b)
low_started u q b sound i low =
    started_below u q b (omega (arith, (within q u.functions i).most, (within u.functions 4 (sound_has u sound).functions).most)) low

-- The ticks up to a start

module _ (n : ℕ) (b : Bank) (below : Below n b) (q : ℕ) where
  pub delay_most : delay b q ≤ n
  unfolding delay
  delay_most = least_le 32 0 (λ d. granted (ticked d b) q) n (omega arith) (granted_late n n b q below (omega arith))

  -- a start that is not granted now has one tick less to go after a tick
  pub delay_tick : n ≤ 31 → granted b q ≡ false → delay b q ≡ delay (shifted b) q + 1
  unfolding delay
  delay_tick m e =
      let f : ℕ → Bool = λ d. granted (ticked d b) q in
      let h : ℕ → Bool = λ d. granted (ticked d (shifted b)) q in
      let some : 1 ≤ n = positive n (granted_late n 0 b q below) in
      let back : suc (n - 1) ≡ n = omega arith in
      let late : h (n - 1) ≡ true = later (n - 1) ∙ ap f back ∙ granted_late n n b q below (omega arith) in
      let most : least_from 32 0 h ≤ n - 1 = least_le 32 0 h (n - 1) (omega arith) late in
      let passes : h (least_from 32 0 h) ≡ true = least_passes 32 0 h (n - 1) (omega arith) (omega arith) late in
      let next : least_from 32 0 h + 1 ≡ suc (least_from 32 0 h) = omega arith in
      least_is 32 0 f (least_from 32 0 h + 1) (omega arith) (omega arith)
      (λ j a l. skips j l)
      (λ l. ap f next ∙ sym (later (least_from 32 0 h)) ∙ passes)
    where
      positive : (n : ℕ) → (n ≤ 0 → granted b q ≡ true) → 1 ≤ n
      positive zero g = nowhere (sym e ∙ g (omega arith))
      positive (suc n) g = omega arith

      later : (d : ℕ) → granted (ticked d (shifted b)) q ≡ granted (ticked (suc d) b) q
      later d = ap (λ (c : Bank). granted c q) (ticked_shifted d b)

      skips : (j : ℕ) → j < least_from 32 0 (λ d. granted (ticked d (shifted b)) q) + 1 → granted (ticked j b) q ≡ false
      skips zero l = e
      skips (suc j) l = sym (later j) ∙ least_skips 32 0 (λ d. granted (ticked d (shifted b)) q) j (omega arith) (omega arith)

-- a start that is granted now has no delay
delay_none : (b : Bank) (q : ℕ) → granted b q ≡ true → delay b q ≡ 0
unfolding delay
delay_none b q e = omega (arith, least_le 32 0 (λ d. granted (ticked d b) q) 0 (omega arith) e)

-- The time unit in which a line of records has started

-- the last of some records starts within n + 1 time units for each of them
pub due_most : (u : FunctionUnit) → sound_of u ≡ true → (b : Bank) (line : List Waiting) → Low u b → tags_inside u.functions line ≡ true
    → due_unit u b line ≤ length line * (largest_column (marked u) + 1)
unfolding due_unit tags_inside
due_most u sound b [] low tags = omega arith
due_most u sound b (w ∷ line) low tags =
    let n : ℕ = largest_column (marked u) in
    let d : ℕ = delay b w.tag in
    let i = and_left (inside w.tag u.functions) _ tags in
    let later = low_started u w.tag (ticked d b) sound i (ticked_below n d b low) in
    let rest = due_most u sound (started u w.tag (ticked d b)) line later (and_right (inside w.tag u.functions) _ tags) in
    omega (arith, delay_most n b low w.tag, suc-mul (length line) (n + 1))

-- a start that is granted now takes this time unit
pub due_granted : (u : FunctionUnit) (b : Bank) (w : Waiting) (line : List Waiting) → granted b w.tag ≡ true
    → due_unit u b (w ∷ line) ≡ due_unit u (started u w.tag b) line + 1
unfolding due_unit
due_granted u b w line g =
    ap (λ d. d + 1 + due_unit u (started u w.tag (ticked d b)) line) (delay_none b w.tag g) ∙ omega arith

-- and otherwise all of them are due one tick later
pub due_tick : (u : FunctionUnit) (b : Bank) (w : Waiting) (line : List Waiting) → Low u b → granted b w.tag ≡ false
    → due_unit u b (w ∷ line) ≡ due_unit u (shifted b) (w ∷ line) + 1
unfolding due_unit
due_tick u b w line low g =
    let d : ℕ = delay (shifted b) w.tag in
    let e = delay_tick (largest_column (marked u)) b low w.tag (largest_31 u) g in
    let s : d + 1 ≡ suc d = omega arith in
    ap (λ d. d + 1 + due_unit u (started u w.tag (ticked d b)) line) (e ∙ s)
    ∙ ap (λ (c : Bank). suc d + 1 + due_unit u (started u w.tag c) line) (sym (ticked_shifted d b))
    ∙ omega arith

-- no record starts before the first time unit
pub due_some : (u : FunctionUnit) (b : Bank) (line : List Waiting) (j : ℕ) → j < length line → 1 ≤ due_unit u b (take (suc j) line)
unfolding due_unit
due_some u b [] j h = absurd (omega arith)
due_some u b (w ∷ line) j h = omega arith

pub due_none : (u : FunctionUnit) (b : Bank) → 1 ≡ due_unit u b [] + 1
unfolding due_unit
due_none u b = omega arith
