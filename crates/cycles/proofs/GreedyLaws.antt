-- The greedy walk: the least latency, the states that the walk sees, and the cycle in which it ends. Assumes nothing.
use mathlib.Core.Path.{◌≡◌, refl, sym, ap, ap₂, ◌∙◌, subst}
use mathlib.Core.Bool.{true, false, cond}
use mathlib.Core.List.{List, [], ◌∷◌, ◌++◌}
use Prim.Native.Nat.{ℕ, zero, suc, ◌+◌, ◌≤◌, ◌<◌}
use native.Mathlib.Nat.{not-suc-le-zero}
use native.Mathlib.Omega.{arith}
use lib.Dec.{eqb}
use lib.ListN.{length, get_or, take, drop, length-append, length-drop}
use lib.Seq.{get_or-drop}
use borrow.Author.Tests.{eqb-true, eq-eqb, ne_eqb, lt-ltb, le-leb}
use Rattle.words.proofs.Tests.{T_true, true_T, by_test}
use Rattle.words.proofs.BelowLaws.{least_first, least_passes, least_is, least_le}
use Rattle.unit.specs.Table.{Table}
use Rattle.collision.specs.Pipeline.{NeverCollides}
use Rattle.diagram.specs.Diagram.{next, longest, Permits, Walk, stay, step, Reachable}
use Rattle.diagram.specs.States.{Each, Distinct, has, arc, states}
use Rattle.diagram.proofs.ListLaws.{has_listed, add_distinct}
use Rattle.diagram.proofs.Listing.{arc_permits, permits_arc, states_complete}
use Rattle.diagram.proofs.Pigeon.{distinct_fits}
use Rattle.diagram.proofs.Walks.{run, walk_run}
use Rattle.diagram.proofs.Sound.{sound}
use Rattle.diagram.proofs.Vectors.{IsVector}
use Rattle.diagram.specs.Cycles.{states_along, CycleFrom}
use Rattle.cycles.specs.Greedy.{least_latency, first_place, greedy_from, greedy_cycle}
use Rattle.cycles.proofs.AlongLaws.{along_length, along_at, along_append, along_drop, walk_join, walk_take, walk_drop}

-- The least latency

longest_arc : (g n s : ℕ) → arc g n s (longest g n) ≡ true
longest_arc g n s = rw (le-leb g (longest g n) (omega arith), lt-ltb n (longest g n) (omega arith))

pub least_most : (g n s : ℕ) → least_latency g n s ≤ longest g n
unfolding least_latency
least_most g n s = least_le (longest g n) 1 (arc g n s) (longest g n) (omega arith) (longest_arc g n s)

pub least_permits : (g n s : ℕ) → Permits g n s (least_latency g n s)
unfolding least_latency
least_permits g n s =
    arc_permits g n s (least_latency g n s) (least_first (longest g n) 1 (arc g n s)) (least_most g n s)
    (true_T (least_passes (longest g n) 1 (arc g n s) (longest g n) (omega arith) (omega arith) (longest_arc g n s)))

-- no smaller latency is permitted
pub least_least : (g n s t : ℕ) → Permits g n s t → least_latency g n s ≤ t
unfolding least_latency
least_least g n s t p = least_le (longest g n) 1 (arc g n s) t p.positive (T_true (arc g n s t) (permits_arc g n s t p))

-- The first place

pub place_inside : (s : ℕ) (l : List ℕ) → has s l ≡ true → first_place s l < length l
unfolding first_place
place_inside s l e =
    let r = has_listed s l (true_T e) in
    let inside = r.inside in
    omega (arith, least_le (length l) 0 (λ i. eqb (get_or l i 0) s) r.index (omega arith) (eq-eqb (get_or l r.index 0) s r.found))

pub place_holds : (s : ℕ) (l : List ℕ) → has s l ≡ true → get_or l (first_place s l) 0 ≡ s
unfolding first_place
place_holds s l e =
    let r = has_listed s l (true_T e) in
    let inside = r.inside in
    eqb-true (get_or l (first_place s l) 0) s
    (least_passes (length l) 0 (λ i. eqb (get_or l i 0) s) r.index (omega arith) (omega arith) (eq-eqb (get_or l r.index 0) s r.found))

-- in a list without repeats there is no other
pub place_only : (s : ℕ) (l : List ℕ) (j : ℕ) → Distinct l → j < length l → get_or l j 0 ≡ s → first_place s l ≡ j
unfolding first_place
place_only s l j d h e =
    least_is (length l) 0 (λ i. eqb (get_or l i 0) s) j (omega arith) (omega arith)
    (λ i o k. ne_eqb (get_or l i 0) s (λ f. d i j k h (f ∙ sym e))) (λ k. eq-eqb (get_or l j 0) s e)

-- The walk from the first state

-- by the latencies the walk came from the first state to s, through the states seen, each of them once
pub record Trail (g n cv : ℕ) (seen latencies : List ℕ) (s : ℕ) : Type 0 where
  pub walk : Walk g n cv cv latencies s
  pub along : seen ≡ states_along cv cv latencies
  pub apart : Distinct seen

pub trail_start : (g n cv : ℕ) → Trail g n cv [] [] cv
trail_start g n cv = record { walk = stay; along = refl; apart = λ i j h k e. not-suc-le-zero k }

module _ {g n cv : ℕ} {seen latencies : List ℕ} {s : ℕ} (r : Trail g n cv seen latencies s) where
  pub trail_length : length seen ≡ length latencies
  trail_length = ap length r.along ∙ along_length cv cv latencies

  pub trail_more : (t : ℕ) → has s seen ≡ false → Permits g n s t → Trail g n cv (seen ++ (s ∷ [])) (latencies ++ (t ∷ [])) (next cv s t)
  trail_more t new p = record {
    walk = walk_join r.walk (step p stay);
    along =
        ap₂ (λ a x. a ++ (x ∷ [])) r.along (sym (walk_run r.walk))
        ∙ sym (along_append cv cv latencies (t ∷ []));
    apart = subst (λ b. Distinct (cond b seen (seen ++ (s ∷ [])))) new (add_distinct s seen r.apart);
  }

  seen_at : (i : ℕ) → i < length seen → get_or seen i 0 ≡ run cv cv (take i latencies)
  seen_at i h = ap (λ l. get_or l i 0) r.along ∙ along_at cv cv latencies i (omega (arith, trail_length))

  pub trail_reached : Each (Reachable g n cv) seen
  trail_reached i h = rw (seen_at i h) (record { along = take i latencies; walk = walk_take i r.walk })

  -- no more states are seen than there are
  pub trail_few : length (states 256 g n cv) ≤ 256 → length seen ≤ length (states 256 g n cv)
  trail_few few =
      distinct_fits seen (states 256 g n cv) r.apart
      (λ i h. states_complete g n cv 256 few (get_or seen i 0) (trail_reached i h))

  -- where s is among the states seen, the latencies from there on are a cycle
  module _ (j : ℕ) (inside : j < length seen) (again : get_or seen j 0 ≡ s) where
    back : run cv cv (take j latencies) ≡ s
    back = sym (seen_at j inside) ∙ again

    drop_apart : (l : List ℕ) → Distinct l → Distinct (drop j l)
    drop_apart l d a b h k e = d (j + a) (j + b) (omega arith) (omega (arith, length-drop j l)) (sym (get_or-drop j l a 0) ∙ e ∙ get_or-drop j l b 0)

    pub trail_cycle : CycleFrom g n cv (drop j latencies)
    trail_cycle = record {
      state = s;
      reached = record { along = latencies; walk = r.walk };
      closed = subst (λ x. Walk g n cv x (drop j latencies) s) back (walk_drop j r.walk);
      apart =
          subst Distinct
          (ap (drop j) r.along ∙ sym (along_drop cv cv j latencies) ∙ ap (λ x. states_along cv x (drop j latencies)) back)
          (drop_apart seen r.apart);
    }

    pub trail_some : 0 < length (drop j latencies)
    trail_some = omega (arith, length-drop j latencies, trail_length)

-- The steps of the calculation

pub greedy_more : (g n cv f : ℕ) (seen latencies : List ℕ) (s : ℕ) → has s seen ≡ false
    → greedy_from g n cv (suc f) seen latencies s
    ≡ greedy_from g n cv f (seen ++ (s ∷ [])) (latencies ++ (least_latency g n s ∷ [])) (next cv s (least_latency g n s))
unfolding greedy_from
greedy_more g n cv f seen latencies s e = rw e

pub greedy_end : (g n cv f : ℕ) (seen latencies : List ℕ) (s : ℕ) → has s seen ≡ true
    → greedy_from g n cv (suc f) seen latencies s ≡ drop (first_place s seen) latencies
unfolding greedy_from
greedy_end g n cv f seen latencies s e = rw e

-- The cycle

-- a cycle of the diagram, of 1 to 256 latencies
pub record ShortCycle (g n cv : ℕ) (l : List ℕ) : Type 0 where
  pub cycle : CycleFrom g n cv l
  pub some : 1 ≤ length l
  pub few : length l ≤ 256

greedy_from_lem : (g n cv : ℕ) → length (states 256 g n cv) ≤ 256 → (f : ℕ) (seen latencies : List ℕ) (s : ℕ)
    → Trail g n cv seen latencies s → length seen + f ≡ 257 → ShortCycle g n cv (greedy_from g n cv f seen latencies s)
greedy_from_lem g n cv few zero seen latencies s r e = absurd (omega (arith, trail_few r few))
greedy_from_lem g n cv few (suc f) seen latencies s r e =
    by_test (has s seen)
    (λ old.
    let j : ℕ = first_place s seen in
    let inside = place_inside s seen old in
    let again = place_holds s seen old in
    rw (greedy_end g n cv f seen latencies s old) (record {
      cycle = trail_cycle r j inside again;
      some = trail_some r j inside again;
      few = omega (arith, length-drop j latencies, trail_length r, trail_few r few);
    }))
    (λ new.
    let t : ℕ = least_latency g n s in
    rw (greedy_more g n cv f seen latencies s new)
    (greedy_from_lem g n cv few f (seen ++ (s ∷ [])) (latencies ++ (t ∷ [])) (next cv s t) (trail_more r t new (least_permits g n s))
    (omega (arith, length-append seen (s ∷ [])))))

pub greedy_cycle_lem : (g n cv : ℕ) → length (states 256 g n cv) ≤ 256 → ShortCycle g n cv (greedy_cycle g n cv)
unfolding greedy_cycle
greedy_cycle_lem g n cv few = greedy_from_lem g n cv few 257 [] [] cv (trail_start g n cv) refl

pub greedy_never : (T : Table) (q g n cv : ℕ) → IsVector T q cv n → length (states 256 g n cv) ≤ 256 → NeverCollides T q (greedy_cycle g n cv)
greedy_never T q g n cv v few =
    let c = greedy_cycle_lem g n cv few in
    sound T q g n cv c.cycle.state (greedy_cycle g n cv) v c.cycle.reached c.cycle.closed c.some
