-- The starts of a cycle, turn by turn. Assumes nothing.
use mathlib.Core.Path.{◌≡◌, refl, ap, sym, ◌∙◌}
use mathlib.Core.List.{List, [], ◌∷◌}
use Prim.Native.Nat.{ℕ, zero, suc, ◌+◌, ◌-◌, ◌*◌, ◌/◌, ◌%◌, ◌≤◌, ◌<◌}
use native.Mathlib.Nat.{le_refl, le_of_lt, add-zero, add-suc, add_comm, zero-mul, suc-mul, add-mod_left, mod-eq_of_lt, mod-lt, not-suc-le-zero, le_of_suc-le-suc, div-add-mod'}
use native.Mathlib.Numerals.{add-one}
use native.Mathlib.Omega.{arith}
use lib.ListN.{length, get_or, take}
use lib.Seq.{take-length}
use Rattle.collision.specs.Pipeline.{Cycle, total, latency, start_at}

-- The first turn

pub total_suc : (l : List ℕ) (k : ℕ) → k < length l → total (take (suc k) l) ≡ total (take k l) + get_or l k 0
total_suc [] k h = absurd (not-suc-le-zero h)
total_suc (t ∷ l) zero h = omega arith
total_suc (t ∷ l) (suc k) h = omega (arith, total_suc l k (le_of_suc-le-suc h))

-- one more latency added to a sum
pub sum_more : (l : List ℕ) (k s : ℕ) → k < length l → s ≡ total (take k l) → s + get_or l k 0 ≡ total (take (k + 1) l)
sum_more l k s h e = rw (add-one k) (omega (arith, total_suc l k h))

pub start_at_take : (l : List ℕ) (k : ℕ) → k ≤ length l → start_at l k ≡ total (take k l)
start_at_take l zero h = refl
start_at_take l (suc k) h = rw (start_at_take l k (le_of_lt h), mod-eq_of_lt h, total_suc l k h)

-- a turn takes as long as its latencies together
pub start_at_length : (l : List ℕ) → start_at l (length l) ≡ total l
start_at_length l = rw take-length at (start_at_take l (length l) (le_refl (length l)))

-- The turns after it

pub start_at_add : (l : List ℕ) (j : ℕ) → start_at l (length l + j) ≡ start_at l (length l) + start_at l j
start_at_add l zero = rw (add-zero (length l)) (omega arith)
start_at_add l (suc j) = rw (add-suc (length l) j, start_at_add l j, add-mod_left (length l) j) (omega arith)

pub start_at_turns : (l : List ℕ) (r : ℕ) → start_at l (r * length l) ≡ r * total l
start_at_turns l zero = rw (zero-mul (length l), zero-mul (total l))
start_at_turns l (suc r) =
    let more : suc r * length l ≡ length l + r * length l = suc-mul r (length l) ∙ add_comm (r * length l) (length l) in
    rw more (omega (arith, start_at_add l (r * length l), start_at_turns l r, start_at_length l, suc-mul r (total l)))

-- the start j after r whole turns
pub start_at_turns_add : (l : List ℕ) (r j : ℕ) → start_at l (r * length l + j) ≡ r * total l + start_at l j
start_at_turns_add l zero j =
    let e : zero * length l + j ≡ j = omega (arith, zero-mul (length l)) in
    rw e (omega (arith, zero-mul (total l)))
start_at_turns_add l (suc r) j =
    let more : suc r * length l + j ≡ length l + (r * length l + j) = omega (arith, suc-mul r (length l)) in
    rw more (omega (arith, start_at_add l (r * length l + j), start_at_turns_add l r j, start_at_length l, suc-mul r (total l)))

-- Intervals

-- the interval from a start to a later one depends only on the place of the first in its turn
pub interval_turn : (l : List ℕ) (i m : ℕ) → start_at l (i + m) - start_at l i ≡ start_at l (i % length l + m) - start_at l (i % length l)
interval_turn l i m =
    let turns : i / length l * length l + i % length l ≡ i = div-add-mod' i (length l) in
    let here : start_at l i ≡ i / length l * total l + start_at l (i % length l) =
    ap (start_at l) (sym turns) ∙ start_at_turns_add l (i / length l) (i % length l) in
    let sum : i + m ≡ i / length l * length l + (i % length l + m) = omega arith in
    let there : start_at l (i + m) ≡ i / length l * total l + start_at l (i % length l + m) =
    ap (start_at l) sum ∙ start_at_turns_add l (i / length l) (i % length l + m) in
    omega arith

-- each latency of a cycle is at least g, in every turn
pub latency_least : (g : ℕ) (l : List ℕ) → Cycle g l → (i : ℕ) → g ≤ latency l i
latency_least g l c i = c.each (i % length l) (mod-lt i c.nonempty)

-- so m starts later at least m time units have passed
pub interval_least : (l : List ℕ) → Cycle 1 l → (i m : ℕ) → start_at l i + m ≤ start_at l (i + m)
interval_least l c i zero = rw (add-zero i) (omega arith)
interval_least l c i (suc m) = rw (add-suc i m) (omega (arith, interval_least l c i m, latency_least 1 l c (i + m)))
