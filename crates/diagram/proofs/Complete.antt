-- A cycle that never collides is a walk of the state diagram, where latencies too long for it are cut. Assumes nothing.
use mathlib.Core.Path.{◌≡◌, refl}
use mathlib.Core.List.{List}
use Prim.Native.Nat.{ℕ, zero, suc, ◌+◌, ◌-◌, ◌%◌, ◌^◌, ◌≤◌, ◌<◌, zero-le}
use native.Mathlib.Nat.{le_refl, le_step, add-zero, zero-add, min-eq_left, mod-lt}
use native.Mathlib.Decide.{dec_le}
use native.Mathlib.Omega.{arith}
use lib.ListN.{length}
use Rattle.unit.specs.Table.{Table}
use Rattle.collision.specs.Pipeline.{NeverCollides, Cycle, latency, start_at}
use Rattle.words.specs.Bits.{bit}
use Rattle.diagram.specs.Diagram.{next, longest, Permits, Walk, stay, step}
use Rattle.diagram.proofs.Vectors.{IsVector, cut, cuts}
use Rattle.diagram.proofs.StateLaws.{bit_next, next_lt, next_far}
use Rattle.collision.proofs.ClashLaws.{never_forbidden, start_at_mono}
use Rattle.diagram.proofs.Walks.{state_at}

-- a bit of a state is clear where no start so far sets it
clear : (cv : ℕ) (l : List ℕ) (j k : ℕ) → ((i : ℕ) → i ≤ j → (d : ℕ) → start_at l i + d ≡ start_at l j + k → bit cv d ≡ 0)
    → bit (state_at cv cv l j) k ≡ 0
clear cv l zero k f = f 0 zero-le k refl
clear cv l (suc j) k f =
    omega (
      arith,
      bit_next cv (state_at cv cv l j) (latency l j) k,
      f (suc j) (le_refl (suc j)) k refl,
      clear cv l j (latency l j + k) (λ i h d e. f i (le_step h) d (omega arith)),
    )

next_cut : (g n cv s t : ℕ) → s < 2 ^ n → next cv s (cut g n t) ≡ next cv s t
next_cut g n cv s t h = pick (dec_le t (longest g n))
  where
    pick : Dec (t ≤ longest g n) → next cv s (cut g n t) ≡ next cv s t
    pick (yes k) = rw (min-eq_left k)
    pick (no k) = next_far n cv s (cut g n t) t h (omega arith) (omega arith)

module _ (T : Table) (q g n cv : ℕ) (l : List ℕ) (v : IsVector T q cv n) (c : Cycle g l) (pos : 1 ≤ g) (never : NeverCollides T q l) where
  state_at_lt : (j : ℕ) → state_at cv cv l j < 2 ^ n
  state_at_lt zero = v.fits
  state_at_lt (suc j) = next_lt n cv (state_at cv cv l j) (latency l j) v.fits (state_at_lt j)

  permits : (j : ℕ) → Permits g n (state_at cv cv l j) (cut g n (latency l j))
  permits j =
      let t : ℕ = latency l j in
      let long : g ≤ t = c.each (j % length l) (mod-lt j c.nonempty) in
      record { positive = omega arith; spaced = omega arith; small = omega arith; free = free }
    where
      off : (i : ℕ) → i ≤ j → (d : ℕ) → start_at l i + d ≡ start_at l j + (latency l j - 1) → 1 ≤ latency l j → bit cv d ≡ 0
      off i h d e p =
          let m : start_at l i ≤ start_at l j = start_at_mono l i j h in
          let same : start_at l (suc j) - start_at l i - 1 ≡ d = omega arith in
          let no-bit : ¬ (bit cv (start_at l (suc j) - start_at l i - 1) ≡ 1) =
          λ b. (never_forbidden T q l).0 never i (suc j) (omega arith) ((v.bits (start_at l (suc j) - start_at l i) (omega arith)).0 b) in
          omega (arith, rw same at no-bit)

      free : cut g n (latency l j) ≤ n → bit (state_at cv cv l j) (cut g n (latency l j) - 1) ≡ 0
      free h =
          let short : cut g n (latency l j) ≡ latency l j = omega arith in
          let long : g ≤ latency l j = c.each (j % length l) (mod-lt j c.nonempty) in
          rw short (clear cv l j (latency l j - 1) (λ i k d e. off i k d e (omega arith)))

  complete_at : (i r : ℕ) → Walk g n cv (state_at cv cv l i) (cuts g n l i r) (state_at cv cv l (i + r))
  complete_at i zero = rw add-zero stay
  complete_at i (suc r) =
      let shift : i + suc r ≡ suc i + r = omega arith in
      let rest : Walk g n cv (next cv (state_at cv cv l i) (cut g n (latency l i))) (cuts g n l (suc i) r) (state_at cv cv l (i + suc r)) =
      rw (next_cut g n cv (state_at cv cv l i) (latency l i) (state_at_lt i), shift) (complete_at (suc i) r) in
      step (permits i) rest

  pub complete : (r : ℕ) → Walk g n cv cv (cuts g n l 0 r) (state_at cv cv l r)
  complete r = rw zero-add at (complete_at 0 r)
