-- A bound on walks is a bound on every list of latencies that, repeated without end and cut, is a walk. Assumes nothing.
use mathlib.Core.Path.{◌≡◌, refl, ap}
use mathlib.Core.List.{List, [], ◌∷◌}
use Prim.Native.Nat.{ℕ, zero, suc, ◌+◌, ◌*◌, ◌≤◌, ◌<◌, min}
use native.Mathlib.Nat.{le_refl, add-zero, zero-add, mul-suc, mul_left_comm, mul-le-mul_left}
use native.Mathlib.Decide.{dec_le}
use native.Mathlib.Omega.{arith}
use lib.ListN.{length}
use Rattle.collision.specs.Pipeline.{total, latency, start_at}
use Rattle.collision.proofs.StartLaws.{start_at_turns}

-- r latencies of the cycle l repeated, from the i-th on, each cut to the longest label
abbrev pub cuts : ℕ → List ℕ → ℕ → ℕ → List ℕ
cuts top l i zero = []
cuts top l i (suc r) = min (latency l i) top ∷ cuts top l (suc i) r

pub length_cuts : (top : ℕ) (l : List ℕ) (i r : ℕ) → length (cuts top l i r) ≡ r
length_cuts top l i zero = refl
length_cuts top l i (suc r) = ap suc (length_cuts top l (suc i) r)

pub total_cuts : (top : ℕ) (l : List ℕ) (i r : ℕ) → total (cuts top l i r) + start_at l i ≤ start_at l (i + r)
total_cuts top l i zero = rw (add-zero i) (omega arith)
total_cuts top l i (suc r) = let shift : i + suc r ≡ suc i + r = omega arith in rw shift (omega (arith, total_cuts top l (suc i) r))

-- what holds of every number of turns, up to a constant, holds of one
pub per_turn : (a b e r : ℕ) → e < r → r * a ≤ r * b + e → a ≤ b
per_turn a b e r h k = pick (dec_le a b)
  where
    pick : Dec (a ≤ b) → a ≤ b
    pick (yes l) = l
    pick (no l) = omega (arith, mul-le-mul_left {m = suc b} {n = a} r (omega arith), mul-suc r b)

-- the average of l is at least S / K, if that of each number of its latencies, cut, is, up to a constant
pub rival_bound : (top S K E : ℕ) (l : List ℕ)
    → ((r : ℕ) → S * length (cuts top l 0 r) ≤ K * total (cuts top l 0 r) + E) → S * length l ≤ K * total l
rival_bound top S K E l walks = per_turn (S * length l) (K * total l) E r (le_refl (suc E)) bound
  where
    r : ℕ
    r = suc E

    along : List ℕ
    along = cuts top l 0 (r * length l)

    sum : total along ≤ r * total l
    sum = rw (← (start_at_turns l r)) (omega (arith, rw zero-add at (total_cuts top l 0 (r * length l))))

    bound : r * (S * length l) ≤ r * (K * total l) + E
    bound =
        omega (
          arith,
          rw (length_cuts top l 0 (r * length l)) at (walks (r * length l)),
          mul-le-mul_left K sum,
          mul_left_comm S r (length l),
          mul_left_comm K r (total l),
        )
