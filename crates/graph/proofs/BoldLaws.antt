-- The bold arcs are those that the cycle takes: after 32 turns nothing is left of the state in which it began. Assumes nothing.
use mathlib.Core.Path.{◌≡◌, refl, sym, ap, ◌∙◌}
use mathlib.Core.Bool.{Bool, true, ◌&&◌}
use mathlib.Core.Logic.{◌↔◌}
use mathlib.Core.List.{List, [], ◌∷◌}
use Prim.Native.Nat.{ℕ, zero, suc, ◌+◌, ◌*◌, ◌%◌, ◌^◌, ◌≤◌, ◌<◌, max}
use native.Mathlib.Nat.{le_of_suc-le-suc, not-suc-le-zero, mod-eq_of_lt, mul-add-mod_self_right}
use native.Mathlib.Omega.{arith}
use borrow.Author.Tests.{eqb-true, eq-eqb}
use lib.Dec.{eqb}
use lib.ListN.{length, get_or, take}
use Rattle.words.specs.Bits.{bit}
use Rattle.words.proofs.Tests.{and_left, and_right, and_true}
use Rattle.words.proofs.BitLaws.{bit_above, bit_of_zero, same_bits}
use Rattle.words.proofs.BelowLaws.{some_intro, some_elim}
use Rattle.collision.specs.Pipeline.{latency, start_at}
use Rattle.diagram.specs.Diagram.{next, Walk, stay, step}
use Rattle.diagram.specs.Cycles.{states_along, CycleFrom}
use Rattle.diagram.proofs.StateLaws.{bit_next, next_lt}
use Rattle.diagram.proofs.Walks.{run, state_at, state_at_run, walk_run, cycle_permits}
use Rattle.graph.specs.Dot.{state_before, on_cycle, LeavesBy}

-- What is left of the first state

-- after m latencies it has moved by their sum
bit_at : (cv a : ℕ) (l : List ℕ) (m k : ℕ) → bit (state_at cv a l m) k ≡ max (bit a (start_at l m + k)) (bit (state_at cv 0 l m) k)
bit_at cv a l zero k =
    let z = bit_of_zero k in
    let e : 0 + k ≡ k = omega arith in
    rw (e, z) (omega arith)
bit_at cv a l (suc m) k =
    let t = latency l m in
    let e : start_at l m + (t + k) ≡ start_at l m + t + k = omega arith in
    let i = bit_at cv a l m (t + k) in
    let j : bit a (start_at l m + (t + k)) ≡ bit a (start_at l m + t + k) = ap (bit a) e in
    omega (arith, bit_next cv (state_at cv a l m) t k, bit_next cv (state_at cv 0 l m) t k, i, j)

at_lt : (cv a : ℕ) (l : List ℕ) (m : ℕ) → cv < 2 ^ 32 → a < 2 ^ 32 → state_at cv a l m < 2 ^ 32
at_lt cv a l zero h k = k
at_lt cv a l (suc m) h k = next_lt 32 cv (state_at cv a l m) (latency l m) h (at_lt cv a l m h k)

-- from a sum of 32 on it is gone
forgotten : (cv a : ℕ) (l : List ℕ) (m : ℕ) → cv < 2 ^ 32 → a < 2 ^ 32 → 32 ≤ start_at l m → state_at cv a l m ≡ state_at cv 0 l m
forgotten cv a l m h k far =
    same_bits 32 (state_at cv a l m) (state_at cv 0 l m) (at_lt cv a l m h k) (at_lt cv 0 l m h (omega arith))
    (λ j b.
    let z : bit a (start_at l m + j) ≡ 0 = bit_above a 32 (start_at l m + j) k (omega arith) in
    let e : bit (state_at cv a l m) j ≡ bit (state_at cv 0 l m) j = omega (arith, bit_at cv a l m j) in
    ap (λ x. eqb x 1) e)

-- latencies of at least 1 add up to their number
start_least : (l : List ℕ) → ((i : ℕ) → 1 ≤ latency l i) → (m : ℕ) → m ≤ start_at l m
start_least l each zero = omega arith
start_least l each (suc m) = omega (arith, start_least l each m, each m)

-- The states along the cycle

before_at : (cv : ℕ) (l : List ℕ) (m : ℕ) → state_before cv l m ≡ state_at cv cv l m
unfolding state_before
before_at cv l zero = refl
before_at cv l (suc m) = ap (λ x. next cv x (latency l m)) (before_at cv l m)

along_run : (cv s : ℕ) (l : List ℕ) (j : ℕ) → j < length l → run cv s (take j l) ≡ get_or (states_along cv s l) j 0
along_run cv s [] j h = absurd (not-suc-le-zero h)
along_run cv s (t ∷ l) zero h = refl
along_run cv s (t ∷ l) (suc j) h = along_run cv (next cv s t) l j (le_of_suc-le-suc h)

walk_below : {g n cv a e : ℕ} {l : List ℕ} → Walk g n cv a l e → cv < 2 ^ 32 → a < 2 ^ 32 → e < 2 ^ 32
walk_below stay h k = k
walk_below {cv = cv} (step {s = s} {t = t} p w) h k = walk_below w h (next_lt 32 cv s t h k)

module _ {g n cv : ℕ} {l : List ℕ} (c : CycleFrom g n cv l) (small : cv < 2 ^ 32) where
  -- the noted states are those of the cycle
  turn_state : (j : ℕ) → j < length l → state_before cv l (32 * length l + j) ≡ get_or (states_along cv c.state l) j 0
  turn_state j h =
      let m : ℕ = 32 * length l + j in
      let some : 0 < length l = omega arith in
      let first : c.state < 2 ^ 32 = walk_below c.reached.walk small small in
      let least = start_least l (λ i. (cycle_permits c.closed some i).positive) m in
      let far : 32 ≤ start_at l m = omega (arith, least) in
      let k : m % length l ≡ j = mul-add-mod_self_right 32 (length l) j ∙ mod-eq_of_lt h in
      before_at cv l m
      ∙ forgotten cv cv l m small small far
      ∙ sym (forgotten cv c.state l m small first far)
      ∙ state_at_run cv c.state l some (walk_run c.closed) m
      ∙ ap (λ i. run cv c.state (take i l)) k
      ∙ along_run cv c.state l j h

  -- an arc is bold exactly if the cycle takes it
  pub bold_means : (s t : ℕ) → (on_cycle cv l s t ≡ true) ↔ LeavesBy cv c.state l s t
  unfolding on_cycle
  bold_means s t = (
    (λ e.
        let r = some_elim (length l) test e in
        let j = r.at in
        record {
          start = j;
          inside = r.inside;
          from = sym (turn_state j r.inside) ∙ eqb-true (state_before cv l (32 * length l + j)) s (and_left (eqb (state_before cv l (32 * length l + j)) s) _ r.passed);
          by = eqb-true (get_or l j 0) t (and_right (eqb (state_before cv l (32 * length l + j)) s) _ r.passed);
        }),
    (λ r.
        let j = r.start in
        some_intro (length l) test j r.inside
        (and_true (eq-eqb (state_before cv l (32 * length l + j)) s (turn_state j r.inside ∙ r.from)) (eq-eqb (get_or l j 0) t r.by))),
  )
    where
      test : ℕ → Bool
      test j = eqb (state_before cv l (32 * length l + j)) s && eqb (get_or l j 0) t
