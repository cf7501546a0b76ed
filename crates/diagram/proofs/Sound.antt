-- A cycle of the state diagram never collides. Assumes nothing.
use mathlib.Core.Path.{◌≡◌}
use mathlib.Core.List.{List}
use Prim.Native.Nat.{ℕ, zero, suc, ◌+◌, ◌-◌, ◌≤◌, ◌<◌}
use native.Mathlib.Nat.{le_of_suc-le-suc, not-suc-le-zero}
use native.Mathlib.Decide.{le_ind}
use native.Mathlib.Omega.{arith}
use lib.ListN.{length}
use Rattle.unit.specs.Table.{Table}
use Rattle.collision.specs.Pipeline.{Forbidden, NeverCollides, Cycle, latency, start_at}
use Rattle.words.specs.Bits.{bit}
use Rattle.diagram.specs.Diagram.{Permits, Walk, Reachable}
use Rattle.diagram.proofs.Vectors.{IsVector}
use Rattle.diagram.proofs.StateLaws.{bit_next}
use Rattle.collision.proofs.ClashLaws.{never_forbidden, start_at_mono}
use Rattle.diagram.proofs.Walks.{Contains, state_at, state_at_contains, walk_contains, walk_permits, cycle_permits}

-- the state at the j-th start contains, for each start so far, cv shifted by the time since
remembers : (cv s : ℕ) (l : List ℕ) → Contains cv s → (i j : ℕ) → i ≤ j → (k d : ℕ) → start_at l i + d ≡ start_at l j + k
    → bit cv d ≡ 1 → bit (state_at cv s l j) k ≡ 1
remembers cv s l c i j h =
    le_ind (λ (m : ℕ). (k d : ℕ) → start_at l i + d ≡ start_at l m + k → bit cv d ≡ 1 → bit (state_at cv s l m) k ≡ 1)
    (λ k d e b. let same : d ≡ k = omega arith in state_at_contains cv s l c i k (rw same at b))
    (λ m o ih k d e b. omega (arith, bit_next cv (state_at cv s l m) (latency l m) k, ih (latency l m + k) d (omega arith) b))
    j h

-- latencies that the states from s on permit never collide
pub permitted_sound : (T : Table) (q g n cv s : ℕ) (l : List ℕ) → IsVector T q cv n → Contains cv s
    → ((j : ℕ) → Permits g n (state_at cv s l j) (latency l j)) → NeverCollides T q l
permitted_sound T q g n cv s l v c p = (never_forbidden T q l).1 apart
  where
    apart : (i j : ℕ) → i < j → Forbidden T q (start_at l j - start_at l i) → ⊥
    apart i zero h f = not-suc-le-zero h
    apart i (suc j) h f =
        let t : ℕ = latency l j in
        let d : ℕ = start_at l (suc j) - start_at l i in
        let le : start_at l i ≤ start_at l j = start_at_mono l i j (le_of_suc-le-suc h) in
        let pos : 1 ≤ t = (p j).positive in
        let bound : d ≤ n = v.bound d (omega arith) f in
        let set : bit cv (d - 1) ≡ 1 = (v.bits d (omega arith)).1 f in
        let held : bit (state_at cv s l j) (t - 1) ≡ 1 = remembers cv s l c i j (le_of_suc-le-suc h) (t - 1) (d - 1) (omega arith) set in
        omega (arith, (p j).free (omega arith))

-- a closed walk through a state that the first state reaches never collides
pub sound : (T : Table) (q g n cv s : ℕ) (l : List ℕ) → IsVector T q cv n → Reachable g n cv s → Walk g n cv s l s → 0 < length l
    → NeverCollides T q l
sound T q g n cv s l v r w h =
    permitted_sound T q g n cv s l v (walk_contains r.walk (λ k b. b)) (cycle_permits w h)

-- and it keeps the least interval
pub walk_cycle : {g n cv s e : ℕ} {l : List ℕ} → Walk g n cv s l e → 0 < length l → Cycle g l
walk_cycle w h = record { nonempty = h; each = λ i k. (walk_permits w i k).spaced }
