-- The width of a collision vector: it fits the vector, its highest bit is 1, and the machine's count of leading zeros gives it. Assumes nothing.
use mathlib.Core.Path.{◌≡◌, sym, ap, ◌∙◌}
use mathlib.Core.Bool.{true, false}
use Prim.Native.Nat.{ℕ, zero, suc, ◌+◌, ◌-◌, ◌*◌, ◌/◌, ◌%◌, ◌^◌, ◌≤◌, ◌<◌}
use native.Mathlib.Nat.{div-eq_of_lt-le, le_antisymm}
use native.Mathlib.Decide.{dec_lt}
use native.Mathlib.Omega.{arith}
use lib.Count.{count_leading_zeros, leading_of_zero, leading_top}
use lib.Pow.{pow-add}
use borrow.Author.Tests.{eqb-true, eq-eqb}
use Rattle.words.specs.Bits.{bit, is_set}
use Rattle.words.proofs.Tests.{nowhere, not_passed}
use Rattle.words.proofs.BitLaws.{HighBit, high_bit, bit_above}
use Rattle.words.proofs.BelowLaws.{span_most, span_above, span_passes}
use Rattle.diagram.specs.Diagram.{width}

pub width_le : (cv : ℕ) → width cv ≤ 32
width_le cv = span_most 32 (is_set cv)

-- the highest column is 1
pub width_top : (cv : ℕ) → 0 < width cv → bit cv (width cv - 1) ≡ 1
width_top cv h = eqb-true (bit cv (width cv - 1)) 1 (span_passes 32 (is_set cv) (width cv - 1) (omega arith))

pub width_above : (cv j : ℕ) → width cv ≤ j → j < 32 → is_set cv j ≡ false
width_above cv j h l = not_passed (is_set cv j) (λ e. let k = span_above 32 (is_set cv) j l e in omega arith)

-- a vector without a column 32 has a width of at most 31
pub width_31 : (cv : ℕ) → cv < 2 ^ 31 → width cv ≤ 31
width_31 cv h = go (dec_lt 31 (width cv))
  where
    go : Dec (31 < width cv) → width cv ≤ 31
    go (yes l) = let z = bit_above cv 31 (width cv - 1) h (omega arith) in absurd (omega (arith, width_top cv (omega arith)))
    go (no l) = omega arith

-- a vector has no more bits than its width
pub width_lt : (cv : ℕ) → cv < 2 ^ 32 → cv < 2 ^ width cv
width_lt cv h = go (dec_lt cv (2 ^ width cv))
  where
    go : Dec (cv < 2 ^ width cv) → cv < 2 ^ width cv
    go (yes l) = l
    go (no l) =
        let e : width cv + (32 - width cv) ≡ 32 = omega (arith, width_le cv) in
        let top : HighBit cv (width cv) 32 = rw e at (high_bit (32 - width cv) (width cv) cv (omega arith) (rw e h)) in
        nowhere (sym (width_above cv top.at top.least top.most) ∙ top.set)

-- what fits a word and has its highest bit is its width
width_unique : (cv k : ℕ) → cv < 2 ^ k → k ≤ 32 → (0 < k → bit cv (k - 1) ≡ 1) → k ≡ width cv
width_unique cv k h l top = le_antisymm (below (dec_lt (width cv) k)) (above (dec_lt k (width cv)))
  where
    below : Dec (width cv < k) → k ≤ width cv
    below (yes m) =
        let s : is_set cv (k - 1) ≡ true = eq-eqb (bit cv (k - 1)) 1 (top (omega arith)) in
        nowhere (sym (width_above cv (k - 1) (omega arith) (omega arith)) ∙ s)
    below (no m) = omega arith

    above : Dec (k < width cv) → width cv ≤ k
    above (yes m) =
        let z = bit_above cv k (width cv - 1) h (omega arith) in
        absurd (omega (arith, width_top cv (omega arith)))
    above (no m) = omega arith

pub width_zeros : (cv : ℕ) → cv < 2 ^ 32 → 32 - count_leading_zeros 32 cv ≡ width cv
width_zeros zero h = ap (λ z. 32 - z) (leading_of_zero 32) ∙ width_unique 0 0 (omega arith) (omega arith) (λ l. absurd (omega arith))
width_zeros (suc x) h =
    let t = leading_top 32 (suc x) (omega arith) h in
    let j : ℕ = t.0 in
    let e : 32 - count_leading_zeros 32 (suc x) ≡ suc j = omega (arith, t.1) in
    let d : 2 ^ suc j ≡ 2 ^ j * 2 = ap (λ k. 2 ^ k) (omega arith) ∙ pow-add 2 j 1 in
    let one : suc x / 2 ^ j ≡ 1 = div-eq_of_lt-le (2 ^ j) (omega (arith, t.2)) (omega (arith, d, t.3)) in
    let top : suc j - 1 ≡ j = omega arith in
    e ∙ width_unique (suc x) (suc j) t.3 (omega (arith, t.1)) (λ l. rw top (ap (λ k. k % 2) one))
