-- The upper bound: who always takes the least latency needs at most u + g time units for each task. A state's ones are what is paid for with:
-- a latency t above g is taken only where all columns g to t - 1 are 1, and these ones are gone afterwards; a step brings at most u new ones. Assumes nothing.
use mathlib.Core.Path.{◌≡◌, refl, sym, ap, ◌∙◌, subst}
use mathlib.Core.Bool.{Bool, true, false, ◌&&◌, ◌||◌}
use mathlib.Core.List.{List, [], ◌∷◌, ◌++◌}
use Prim.Native.Nat.{ℕ, zero, suc, ◌+◌, ◌-◌, ◌*◌, ◌/◌, ◌^◌, ◌≤◌, ◌<◌}
use native.Mathlib.Nat.{mul-suc, div-eq_of_lt, lt_of_lt_of_le}
use native.Mathlib.Omega.{arith}
use lib.Bits.{bit_or}
use lib.Pow.{pow_mono}
use lib.Dec.{ltb, eqb}
use lib.ListN.{length, get_or, take, drop}
use borrow.Author.Tests.{eqb-false, le-leb}
use Rattle.words.specs.Bits.{bit, is_set}
use Rattle.words.specs.Below.{count_below}
use Rattle.words.proofs.BitLaws.{set_or, bit_shr, bit_above, zero_unset, set_not_zero}
use Rattle.words.proofs.BelowLaws.{count_same, least_skips}
use Rattle.words.proofs.CountLaws.{count_or}
use Rattle.unit.specs.Table.{Table}
use Rattle.collision.specs.Pipeline.{Cycle, total, NeverCollides}
use Rattle.diagram.specs.Diagram.{next, longest, Permits, Walk, stay, step, Reachable}
use Rattle.diagram.specs.States.{has, arc}
use Rattle.diagram.proofs.StateLaws.{next_lt, reachable_below}
use Rattle.diagram.proofs.Sound.{sound, walk_cycle}
use Rattle.diagram.proofs.Vectors.{IsVector}
use Rattle.diagram.proofs.Walks.{run, walk_run}
use Rattle.cycles.specs.Greedy.{least_latency, first_place, greedy_from, greedy_cycle}
use Rattle.cycles.proofs.GreedyLaws.{least_permits, Trail, trail_start, trail_more, trail_length, place_inside, place_holds, greedy_more, greedy_end}
use Rattle.cycles.proofs.AlongLaws.{along_at}
use Rattle.words.proofs.Tests.{nowhere, by_test}
use Rattle.bounds.specs.Bounds.{ones_of}
use Rattle.bounds.proofs.OnesLaws.{count_split, count_beyond, count_row}

-- One step

-- a state's ones are those below t and those that a shift by t leaves
ones_shift : (s t : ℕ) → s < 2 ^ 32 → count_below t (is_set s) + count_below 32 (λ k. is_set s (t + k)) ≡ ones_of s
ones_shift s t h =
    let same : t + 32 ≡ 32 + t = omega arith in
    sym (count_split t 32 (is_set s)) ∙ ap (λ m. count_below m (is_set s)) same
    ∙ count_beyond 32 t (is_set s) (λ k. zero_unset s (32 + k) (bit_above s 32 (32 + k) h (omega arith)))

ones_next : (cv s t : ℕ) → ones_of (next cv s t) ≤ count_below 32 (λ k. is_set s (t + k)) + ones_of cv
ones_next cv s t =
    let same : ones_of (next cv s t) ≡ count_below 32 (λ k. is_set s (t + k) || is_set cv k) =
    count_same 32 (is_set (next cv s t)) (λ k. is_set s (t + k) || is_set cv k)
    (λ k h. set_or (s / 2 ^ t) cv k ∙ ap (λ x. eqb x 1 || is_set cv k) (bit_shr s t k)) in
    omega (arith, count_or 32 (λ k. is_set s (t + k)) (is_set cv))

-- the columns from g on before the least latency are 1
no_arc : (g n s k : ℕ) → g ≤ k → arc g n s k ≡ false → is_set s (k - 1) ≡ true
no_arc g n s k h e = set_not_zero s (k - 1) (eqb-false (bit s (k - 1)) 0 (right (ltb n k) (eqb (bit s (k - 1)) 0) (sym (ap (λ b. b && (ltb n k || eqb (bit s (k - 1)) 0)) (le-leb g k h)) ∙ e)))
  where
    right : (a b : Bool) → true && (a || b) ≡ false → b ≡ false
    right true b e = nowhere (sym e)
    right false b e = e

ones_below : (g n s : ℕ) → 1 ≤ g → least_latency g n s ≤ count_below (least_latency g n s) (is_set s) + g
unfolding least_latency count_below
ones_below g n s pos = go (least_latency g n s) refl
  where
    go : (t : ℕ) → least_latency g n s ≡ t → t ≤ count_below t (is_set s) + g
    go zero e = omega arith
    go (suc t) e =
        let row : t ≤ count_below t (is_set s) + (g - 1) =
        count_row (g - 1) t (is_set s)
        (λ k h l.
        let same : suc k - 1 ≡ k = omega arith in
        rw same at (no_arc g n s (suc k) (omega arith) (least_skips (longest g n) 1 (arc g n s) (suc k) (omega arith) (omega arith)))) in
        omega arith

step_ones : (g n cv s t : ℕ) → 1 ≤ g → s < 2 ^ 32 → t ≡ least_latency g n s → ones_of (next cv s t) + t ≤ ones_of s + (ones_of cv + g)
step_ones g n cv s t pos h e =
    let below : t ≤ count_below t (is_set s) + g = rw e (ones_below g n s pos) in
    omega (arith, ones_next cv s t, ones_shift s t h)

-- Walks by the least latency

-- each of the latencies is the least of the state that it leaves, from s on
abbrev pub Eager : ℕ → ℕ → ℕ → ℕ → List ℕ → Type 0
Eager g n cv s [] = Unit {0}
Eager g n cv s (t ∷ l) = (t ≡ least_latency g n s) × Eager g n cv (next cv s t) l

pub eager_total : (g n cv s : ℕ) (l : List ℕ) → 1 ≤ g → cv < 2 ^ 32 → s < 2 ^ 32 → Eager g n cv s l
    → total l + ones_of (run cv s l) ≤ ones_of s + (ones_of cv + g) * length l
eager_total g n cv s [] pos c h e = omega arith
eager_total g n cv s (t ∷ l) pos c h e =
    omega (
      arith,
      step_ones g n cv s t pos h e.0,
      eager_total g n cv (next cv s t) l pos c (next_lt 32 cv s t c h) e.1,
      mul-suc (ones_of cv + g) (length l),
    )

-- a closed one
pub eager_closed : (g n cv s : ℕ) (l : List ℕ) → 1 ≤ g → cv < 2 ^ 32 → s < 2 ^ 32 → Eager g n cv s l → run cv s l ≡ s → total l ≤ (ones_of cv + g) * length l
eager_closed g n cv s l pos c h e r = let same : ones_of (run cv s l) ≡ ones_of s = ap ones_of r in omega (arith, eager_total g n cv s l pos c h e)

eager_drop : (g n cv s j : ℕ) (l : List ℕ) → Eager g n cv s l → Eager g n cv (run cv s (take j l)) (drop j l)
eager_drop g n cv s zero l e = e
eager_drop g n cv s (suc j) [] e = e
eager_drop g n cv s (suc j) (t ∷ l) e = eager_drop g n cv (next cv s t) j l e.1

eager_more : (g n cv s t : ℕ) (l : List ℕ) → Eager g n cv s l → t ≡ least_latency g n (run cv s l) → Eager g n cv s (l ++ (t ∷ []))
eager_more g n cv s t [] e h = (h, tt)
eager_more g n cv s t (x ∷ l) e h = (e.0, eager_more g n cv (next cv s x) t l e.1 h)

run_lt : (cv s : ℕ) (l : List ℕ) → cv < 2 ^ 32 → s < 2 ^ 32 → run cv s l < 2 ^ 32
run_lt cv s [] c h = h
run_lt cv s (t ∷ l) c h = run_lt cv (next cv s t) l c (next_lt 32 cv s t c h)

run_drop : (cv s j : ℕ) (l : List ℕ) → run cv (run cv s (take j l)) (drop j l) ≡ run cv s l
run_drop cv s zero l = refl
run_drop cv s (suc j) [] = refl
run_drop cv s (suc j) (t ∷ l) = run_drop cv (next cv s t) j l

-- The greedy cycle

greedy_from_lem : (g n cv f : ℕ) (seen latencies : List ℕ) (s : ℕ) → 1 ≤ g → cv < 2 ^ 32 → Trail g n cv seen latencies s → Eager g n cv cv latencies
    → total (greedy_from g n cv f seen latencies s) ≤ (ones_of cv + g) * length (greedy_from g n cv f seen latencies s)
unfolding greedy_from
greedy_from_lem g n cv zero seen latencies s pos c r e = omega arith
greedy_from_lem g n cv (suc f) seen latencies s pos c r e =
    by_test (has s seen)
    (λ old.
    let j : ℕ = first_place s seen in
    let inside : j < length latencies = subst (λ m. j < m) (trail_length r) (place_inside s seen old) in
    let back : run cv cv (take j latencies) ≡ s = sym (ap (λ l. get_or l j 0) r.along ∙ along_at cv cv latencies j inside) ∙ place_holds s seen old in
    rw (greedy_end g n cv f seen latencies s old)
    (eager_closed g n cv (run cv cv (take j latencies)) (drop j latencies) pos c (run_lt cv cv (take j latencies) c c)
    (eager_drop g n cv cv j latencies e) (run_drop cv cv j latencies ∙ walk_run r.walk ∙ sym back)))
    (λ new.
    let t : ℕ = least_latency g n s in
    rw (greedy_more g n cv f seen latencies s new)
    (greedy_from_lem g n cv f (seen ++ (s ∷ [])) (latencies ++ (t ∷ [])) (next cv s t) pos c (trail_more r t new (least_permits g n s))
    (eager_more g n cv cv t latencies e (ap (least_latency g n) (sym (walk_run r.walk))))))

pub upper_greedy : (g n cv : ℕ) → 1 ≤ g → cv < 2 ^ 32 → total (greedy_cycle g n cv) ≤ (ones_of cv + g) * length (greedy_cycle g n cv)
unfolding greedy_cycle
upper_greedy g n cv pos c = greedy_from_lem g n cv 257 [] [] cv pos c (trail_start g n cv) tt

-- A rival for the best cycle: so many steps by the least latency from the first state, after the longest latency that leads there

pub eagerly : ℕ → ℕ → ℕ → ℕ → ℕ → List ℕ
eagerly g n cv zero s = []
eagerly g n cv (suc m) s = least_latency g n s ∷ eagerly g n cv m (next cv s (least_latency g n s))

pub eagerly_length : (g n cv m s : ℕ) → length (eagerly g n cv m s) ≡ m
unfolding eagerly
eagerly_length g n cv zero s = refl
eagerly_length g n cv (suc m) s = ap suc (eagerly_length g n cv m (next cv s (least_latency g n s)))

eagerly_eager : (g n cv m s : ℕ) → Eager g n cv s (eagerly g n cv m s)
unfolding eagerly
eagerly_eager g n cv zero s = tt
eagerly_eager g n cv (suc m) s = (refl, eagerly_eager g n cv m (next cv s (least_latency g n s)))

eagerly_walk : (g n cv m s : ℕ) → Walk g n cv s (eagerly g n cv m s) (run cv s (eagerly g n cv m s))
unfolding eagerly
eagerly_walk g n cv zero s = stay
eagerly_walk g n cv (suc m) s = step (least_permits g n s) (eagerly_walk g n cv m (next cv s (least_latency g n s)))

longest_permits : (g n s : ℕ) → Permits g n s (longest g n)
longest_permits g n s = record { positive = omega arith; spaced = omega arith; small = omega arith; free = λ h. absurd (omega arith) }

-- the longest latency leads to the first state
longest_next : (g n cv s : ℕ) → s < 2 ^ n → next cv s (longest g n) ≡ cv
longest_next g n cv s h = ap (λ x. bit_or x cv) (div-eq_of_lt (lt_of_lt_of_le h (pow_mono (omega arith))))

module _ (T : Table) (q g n cv : ℕ) (v : IsVector T q cv n) (pos : 1 ≤ g) (c : cv < 2 ^ 32) (m : ℕ) where
  end : ℕ
  end = run cv cv (eagerly g n cv m cv)

  reached : Reachable g n cv end
  unfolding end
  reached = record { along = eagerly g n cv m cv; walk = eagerly_walk g n cv m cv }

  closed : Walk g n cv end (longest g n ∷ eagerly g n cv m cv) end
  unfolding end
  closed =
      step (longest_permits g n end)
      (subst (λ s. Walk g n cv s (eagerly g n cv m cv) end) (sym (longest_next g n cv end (reachable_below g n cv end v.fits reached))) (eagerly_walk g n cv m cv))

  pub rival_cycle : Cycle g (longest g n ∷ eagerly g n cv m cv)
  rival_cycle = walk_cycle closed (omega arith)

  pub rival_never : NeverCollides T q (longest g n ∷ eagerly g n cv m cv)
  rival_never = sound T q g n cv end (longest g n ∷ eagerly g n cv m cv) v reached closed (omega arith)

  pub rival_total : total (longest g n ∷ eagerly g n cv m cv) ≤ longest g n + ones_of cv + (ones_of cv + g) * m
  rival_total =
      let sum = rw (eagerly_length g n cv m cv) at (eager_total g n cv cv (eagerly g n cv m cv) pos c c (eagerly_eager g n cv m cv)) in
      omega arith
