-- The largest column of the matrices. Assumes nothing.
use mathlib.Core.Path.{◌≡◌, sym, ap, ◌∙◌}
use mathlib.Core.Bool.{true}
use Prim.Native.Nat.{ℕ, suc, ◌+◌, ◌-◌, ◌^◌, ◌≤◌, ◌<◌}
use native.Mathlib.Nat.{lt_of_lt_of_le}
use native.Mathlib.Decide.{dec_lt}
use native.Mathlib.Omega.{arith}
use lib.Pow.{pow_mono}
use Rattle.words.specs.Below.{max_below, span_below}
use Rattle.words.proofs.BelowLaws.{max_above, max_most, max_reached, span_above, span_most, span_passes, word_span}
use Rattle.unit.specs.declared.FunctionUnit.{FunctionUnit}
use Rattle.unit.specs.Table.{Table}
use Rattle.unit.specs.Unit.{marked}
use Rattle.collision.specs.Vector.{collides, row_word, largest_column, IsLargestColumn}
use Rattle.collision.proofs.VectorLaws.{marked_bounded, collides→, collides_near}

module _ (T : Table) where
  -- no row has a larger one
  pub span_column : (q r : ℕ) → q < 5 → r < 5 → span_below 32 (λ k. collides T q r (k + 1)) ≤ largest_column T
  unfolding largest_column
  span_column q r h k =
      omega (
        arith,
        max_above 5 (λ r. span_below 32 (λ k. collides T q r (k + 1))) r k,
        max_above 5 (λ q. max_below 5 (λ r. span_below 32 (λ k. collides T q r (k + 1)))) q h,
      )

  -- no row has a bit from it on
  pub row_below : (q r : ℕ) → q < 5 → r < 5 → row_word T q r < 2 ^ largest_column T
  unfolding row_word
  row_below q r h k = lt_of_lt_of_le (word_span 32 (λ k. collides T q r (k + 1))) (pow_mono (span_column q r h k))

  -- some row has a 1 in it
  column_reached : 1 ≤ largest_column T → (q r : ℕ) × (collides T q r (largest_column T) ≡ true)
  unfolding largest_column
  column_reached h =
      let a = max_reached 4 (λ q. max_below 5 (λ r. span_below 32 (λ k. collides T q r (k + 1)))) in
      let b = max_reached 4 (λ r. span_below 32 (λ k. collides T a.at r (k + 1))) in
      let n : ℕ = largest_column T in
      let one : suc (n - 1) ≡ n = omega arith in
      let back : n - 1 + 1 ≡ n = omega arith in
      let span : span_below 32 (λ k. collides T a.at b.at (k + 1)) ≡ suc (n - 1) = b.value ∙ a.value ∙ sym one in
      (a.at, b.at, ap (collides T a.at b.at) (sym back) ∙ span_passes 32 (λ k. collides T a.at b.at (k + 1)) (n - 1) span)

  pub column_means : IsLargestColumn T (largest_column T)
  column_means = record {
    most = λ q r t a b c d e.
        let f : t - 1 + 1 ≡ t = omega arith in
        let over : t - 1 < span_below 32 (λ k. collides T q r (k + 1)) =
        span_above 32 (λ k. collides T q r (k + 1)) (t - 1) (omega arith) (ap (collides T q r) f ∙ e) in
        omega (arith, span_column q r (omega arith) (omega arith));
    reached = column_reached;
  }

-- it is at most 31
span_31 : (u : FunctionUnit) (q r : ℕ) → span_below 32 (λ k. collides (marked u) q r (k + 1)) ≤ 31
span_31 u q r = go (dec_lt (span_below 32 (λ k. collides (marked u) q r (k + 1))) 32)
  where
    go : Dec (span_below 32 (λ k. collides (marked u) q r (k + 1)) < 32) → span_below 32 (λ k. collides (marked u) q r (k + 1)) ≤ 31
    go (yes h) = omega arith
    go (no h) =
        let e : span_below 32 (λ k. collides (marked u) q r (k + 1)) ≡ 32 = omega (arith, span_most 32 (λ k. collides (marked u) q r (k + 1))) in
        let c = span_passes 32 (λ k. collides (marked u) q r (k + 1)) 31 e in
        absurd (omega (arith, collides_near (marked u) (marked_bounded u) q r 32 (collides→ (marked u) q r 32 c)))

pub largest_31 : (u : FunctionUnit) → largest_column (marked u) ≤ 31
unfolding largest_column
largest_31 u = max_most 5 _ 31 (λ q h. max_most 5 _ 31 (λ r k. span_31 u q r))
