-- A bound on the walks of the diagram is a bound on every cycle that never collides. Assumes nothing.
use mathlib.Core.Path.{◌≡◌, refl, ap}
use mathlib.Core.List.{List}
use Prim.Native.Nat.{ℕ, zero, suc, ◌+◌, ◌*◌, ◌≤◌, ◌<◌}
use native.Mathlib.Nat.{le_refl, add-zero, zero-add, mul-suc, mul_left_comm, mul-le-mul_left}
use native.Mathlib.Decide.{dec_le}
use native.Mathlib.Omega.{arith}
use lib.ListN.{length}
use Rattle.unit.specs.Table.{Table}
use Rattle.collision.specs.Pipeline.{total, NeverCollides, Cycle, start_at}
use Rattle.collision.proofs.StartLaws.{start_at_turns}
use Rattle.diagram.specs.Diagram.{Walk}
use Rattle.diagram.proofs.Vectors.{IsVector, cuts}
use Rattle.diagram.proofs.Complete.{complete}
use Rattle.diagram.proofs.Walks.{state_at}

length_cuts : (g n : ℕ) (l : List ℕ) (i r : ℕ) → length (cuts g n l i r) ≡ r
length_cuts g n l i zero = refl
length_cuts g n l i (suc r) = ap suc (length_cuts g n l (suc i) r)

total_cuts : (g n : ℕ) (l : List ℕ) (i r : ℕ) → total (cuts g n l i r) + start_at l i ≤ start_at l (i + r)
total_cuts g n l i zero = rw (add-zero i) (omega arith)
total_cuts g n l i (suc r) = let shift : i + suc r ≡ suc i + r = omega arith in rw shift (omega (arith, total_cuts g n l (suc i) r))

-- what holds of every number of turns, up to a constant, holds of one
per_turn : (a b e r : ℕ) → e < r → r * a ≤ r * b + e → a ≤ b
per_turn a b e r h k = pick (dec_le a b)
  where
    pick : Dec (a ≤ b) → a ≤ b
    pick (yes l) = l
    pick (no l) = omega (arith, mul-le-mul_left {m = suc b} {n = a} r (omega arith), mul-suc r b)

-- the average latency of every cycle that never collides is at least S / K, if that of every walk is, up to a constant
pub rival : (T : Table) (q g n cv : ℕ) → IsVector T q cv n → 1 ≤ g
    → (S K E : ℕ) → ((l : List ℕ) (s : ℕ) → Walk g n cv cv l s → S * length l ≤ K * total l + E)
    → (l : List ℕ) → Cycle g l → NeverCollides T q l → S * length l ≤ K * total l
rival T q g n cv v pos S K E walks l c never = per_turn (S * length l) (K * total l) E r (le_refl (suc E)) bound
  where
    r : ℕ
    r = suc E

    along : List ℕ
    along = cuts g n l 0 (r * length l)

    sum : total along ≤ r * total l
    sum = rw (← (start_at_turns l r)) (omega (arith, rw zero-add at (total_cuts g n l 0 (r * length l))))

    bound : r * (S * length l) ≤ r * (K * total l) + E
    bound =
        let walked : S * length along ≤ K * total along + E = walks along (state_at cv cv l (r * length l)) (complete T q g n cv l v c pos never (r * length l)) in
        omega (arith, rw (length_cuts g n l 0 (r * length l)) at walked, mul-le-mul_left K sum, mul_left_comm S r (length l), mul_left_comm K r (total l))
