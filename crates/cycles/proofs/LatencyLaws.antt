-- The turns of the loop that finds the least latency of a state. Assumes nothing.
use mathlib.Core.Path.{◌≡◌, sym, ap, ◌∙◌}
use mathlib.Core.Bool.{true, false}
use Prim.Native.Nat.{ℕ, ◌+◌, ◌-◌, ◌/◌, ◌%◌, ◌^◌, ◌≤◌, ◌<◌}
use native.Mathlib.Decide.{dec_le, ℕ_discrete}
use native.Mathlib.Omega.{arith}
use native.Mathlib.Nat.{mod-eq_of_lt}
use lib.Bits.{bit_or}
use borrow.Author.Tests.{lt-ltb, le-ltb, le-leb, eqb-true, eq-eqb, ne_eqb}
use Rattle.words.specs.Bits.{bit, is_set}
use Rattle.words.proofs.BitLaws.{unset_zero}
use Rattle.words.proofs.BelowLaws.{least_is}
use Rattle.diagram.specs.Diagram.{next, longest}
use Rattle.diagram.specs.States.{arc}
use Rattle.cycles.specs.Greedy.{least_latency}
use Rattle.cycles.proofs.GreedyLaws.{least_most}

-- the columns before the latency are 1
pub record Trying (s n t : ℕ) : Type 0 where
  pub least : 1 ≤ t
  pub most : t ≤ n + 1
  pub skipped : (k : ℕ) → 1 ≤ k → k < t → is_set s (k - 1) ≡ true

module _ {s n t : ℕ} (r : Trying s n t) where
  pub try_more : t ≤ n → is_set s (t - 1) ≡ true → Trying s n (t + 1)
  try_more h e = record {
    least = omega arith;
    most = omega arith;
    skipped = λ k a b. go k a b (ℕ_discrete k t);
  }
    where
      go : (k : ℕ) → 1 ≤ k → k < t + 1 → Dec (k ≡ t) → is_set s (k - 1) ≡ true
      go k a b (yes q) = rw q e
      go k a b (no q) = r.skipped k a (omega arith)

  no_arc : (k : ℕ) → 1 ≤ k → k < t → arc 1 n s k ≡ false
  no_arc k a b =
      let one : bit s (k - 1) ≡ 1 = eqb-true (bit s (k - 1)) 1 (r.skipped k a b) in
      let most = r.most in
      rw (le-leb 1 k a, le-ltb n k (omega arith), ne_eqb (bit s (k - 1)) 0 (λ z. omega arith))

  found : (t ≤ n → is_set s (t - 1) ≡ false) → t ≡ least_latency 1 n s
  unfolding least_latency
  found e =
      let least = r.least in
      let most = r.most in
      sym (least_is (longest 1 n) 1 (arc 1 n s) t least (omega arith) (λ k a b. no_arc k a b) (λ l. passes (dec_le t n)))
    where
      passes : Dec (t ≤ n) → arc 1 n s t ≡ true
      passes (yes h) = rw (le-leb 1 t r.least, le-ltb n t h, eq-eqb (bit s (t - 1)) 0 (unset_zero s (t - 1) (e h)))
      passes (no h) = rw (le-leb 1 t r.least, lt-ltb n t (omega arith))

  pub try_found : t ≤ n → is_set s (t - 1) ≡ false → t ≡ least_latency 1 n s
  try_found h e = found (λ l. e)

  pub try_last : n < t → t ≡ least_latency 1 n s
  try_last h = found (λ l. absurd (omega arith))

-- the state shifted by its least latency, which is at most 33, OR the collision vector
pub step_state : (cv n s t x : ℕ) → n ≤ 32 → t ≡ least_latency 1 n s → x ≡ s / 2 ^ (t % 64) → bit_or x cv ≡ next cv s (least_latency 1 n s)
step_state cv n s t x h e f =
    let m : t % 64 ≡ t = mod-eq_of_lt (omega (arith, least_most 1 n s)) in
    ap (λ y. bit_or y cv) (f ∙ ap (λ k. s / 2 ^ k) (m ∙ e))
