-- The latencies in the words as a list: a cycle of the listed diagram is a cycle of the diagram. Assumes nothing.
use mathlib.Core.Path.{◌≡◌, refl, sym, ap, subst, ◌∙◌}
use mathlib.Core.Bool.{false}
use mathlib.Core.List.{List, [], ◌∷◌}
use Prim.Native.Nat.{ℕ, zero, suc, ◌+◌, ◌≤◌, ◌<◌}
use native.Mathlib.Nat.{add-zero, le_of_suc-le-suc, not-suc-le-zero}
use native.Mathlib.Omega.{arith}
use lib.ListN.{length, get_or, take, drop}
use lib.Seq.{drop-cons}
use Rattle.diagram.specs.Diagram.{Walk, stay, step, Reachable}
use Rattle.diagram.specs.Work.{state_in}
use Rattle.mean_cycle.specs.declared.Cycle.{Cycle}
use Rattle.mean_cycle.specs.declared.search.Graph.{Graph}
use Rattle.collision.specs.Pipeline.{total}
use Rattle.diagram.specs.Cycles.{states_along, CycleFrom}
use Rattle.mean_cycle.specs.Nodes.{Arc, CycleOf, cyc, sum_to}
use Rattle.mean_cycle.specs.Inner.{Listing}

-- c i, c (i + 1), .., m of them
abbrev pub spell : (ℕ → ℕ) → ℕ → ℕ → List ℕ
spell c i zero = []
spell c i (suc m) = c i ∷ spell c (suc i) m

take_spell : (w : List ℕ) (m i : ℕ) → 1536 + i + m ≤ length w → take m (drop (1536 + i) w) ≡ spell (cyc w) i m
take_spell w zero i h = refl
take_spell w (suc m) i h =
    let e : suc (1536 + i) ≡ 1536 + suc i = omega arith in
    let d : drop (1536 + i) w ≡ cyc w i ∷ drop (1536 + suc i) w =
    drop-cons w (1536 + i) 0 (omega arith) ∙ ap (λ (k : ℕ). cyc w i ∷ drop k w) e
    in
    ap (take (suc m)) d ∙ ap (λ (l : List ℕ). cyc w i ∷ l) (take_spell w m (suc i) (omega arith))

pub cycle_spell : (w : List ℕ) (m : ℕ) → 1536 + m ≤ length w → take m (drop 1536 w) ≡ spell (cyc w) 0 m
cycle_spell w m h = take_spell w m 0 (omega arith)

total_from : (c : ℕ → ℕ) (m i : ℕ) → total (spell c i m) + sum_to c i ≡ sum_to c (i + m)
total_from c zero i = omega (arith, ap (sum_to c) (add-zero i))
total_from c (suc m) i =
    let e : suc i + m ≡ i + suc m = omega arith in
    let r : total (spell c (suc i) m) + sum_to c (suc i) ≡ sum_to c (i + suc m) = total_from c m (suc i) ∙ ap (sum_to c) e in
    omega arith

pub total_spell : (c : ℕ → ℕ) (m : ℕ) → total (spell c 0 m) ≡ sum_to c m
total_spell c m = let e : 0 + m ≡ m = omega arith in omega (arith, total_from c m 0 ∙ ap (sum_to c) e)

-- a graph whose arcs go by the collision vector
abbrev pub ruled : ℕ → ℕ → ℕ → Graph
ruled r n cv = record { nodes = r; width = n; vector = cv; table = false }

module _ (w : List ℕ) (r n cv : ℕ) (c node : ℕ → ℕ) (count : ℕ) (arcs : (i : ℕ) → i < count → Arc w (ruled r n cv) (node i) (c i) (node (suc i))) where
  along : ℕ → ℕ → List ℕ
  along i m = states_along cv (state_in w (node i)) (spell c i m)

  walk_spell : (m i k : ℕ) → i + m ≡ k → k ≤ count → Walk 1 n cv (state_in w (node i)) (spell c i m) (state_in w (node k))
  walk_spell zero i k e l =
      let f : i ≡ k = omega arith in
      subst (λ (z : ℕ). Walk 1 n cv (state_in w (node i)) [] (state_in w (node z))) f stay
  walk_spell (suc m) i k e l =
      let a = arcs i (omega arith) in
      step
      a.permits
      (subst (λ (s : ℕ). Walk 1 n cv s (spell c (suc i) m) (state_in w (node k))) a.leads (walk_spell m (suc i) k (omega arith) l))

  along_more : (m i : ℕ) → i < count → along i (suc m) ≡ state_in w (node i) ∷ along (suc i) m
  unfolding along
  along_more m i l =
      ap (λ (s : ℕ). state_in w (node i) ∷ states_along cv s (spell c (suc i) m)) (sym (arcs i l).leads)

  along_length : (m i : ℕ) → i + m ≤ count → length (along i m) ≡ m
  unfolding along
  along_length zero i l = refl
  along_length (suc m) i l = ap length (along_more m i (omega arith)) ∙ ap suc (along_length m (suc i) (omega arith))

  along_at : (m i j : ℕ) → i + m ≤ count → j < m → get_or (along i m) j 0 ≡ state_in w (node (i + j))
  unfolding along
  along_at zero i j l h = absurd (not-suc-le-zero h)
  along_at (suc m) i zero l h =
      let e : i ≡ i + 0 = omega arith in
      ap (λ (z : ℕ). state_in w (node z)) e
  along_at (suc m) i (suc j) l h =
      let e : suc i + j ≡ i + suc j = omega arith in
      ap (λ (s : List ℕ). get_or s (suc j) 0) (along_more m i (omega arith))
      ∙ along_at m (suc i) j (omega arith) (le_of_suc-le-suc h)
      ∙ ap (λ (z : ℕ). state_in w (node z)) e

pub cycle_from :
    {w : List ℕ} {r n cv : ℕ} {c : ℕ → ℕ} {best : Cycle} → Listing w (ruled r n cv)
    → ((i : ℕ) → i < r → Reachable 1 n cv (state_in w i)) → CycleOf w (ruled r n cv) c best
    → CycleFrom 1 n cv (spell c 0 best.count)
unfolding along
cycle_from {w} {r} {n} {cv} {c} {best} h reached z =
    let k : ℕ = best.count in
    let state : ℕ = state_in w (z.node 0) in
    let at : (i : ℕ) → i < k → get_or (along w r n cv c z.node k z.arcs 0 k) i 0 ≡ state_in w (z.node i) =
    λ i l. let e : 0 + i ≡ i = omega arith in along_at w r n cv c z.node k z.arcs k 0 i (omega arith) l ∙ ap (λ (x : ℕ). state_in w (z.node x)) e
    in
    let size = along_length w r n cv c z.node k z.arcs k 0 (omega arith) in
    record {
      state = state;
      reached = reached (z.node 0) (z.arcs 0 z.some).leaves;
      closed =
          subst (λ (m : ℕ). Walk 1 n cv state (spell c 0 k) (state_in w m)) z.closed
          (walk_spell w r n cv c z.node k z.arcs k 0 k (omega arith) (omega arith));
      apart = λ i j l m e.
          let low : j < k = omega (arith, size) in
          let same : z.node i ≡ z.node j =
          h.source.apart (z.node i) (z.node j) (z.arcs i (omega arith)).leaves (z.arcs j low).leaves
          (sym (at i (omega arith)) ∙ e ∙ at j low)
          in
          let q : i ≡ j = z.apart i j (omega arith) low same in
          omega arith;
    }

-- it begins at the state of its first node
pub cycle_begins :
    {w : List ℕ} {r n cv : ℕ} {c : ℕ → ℕ} {best : Cycle} (h : Listing w (ruled r n cv))
    (reached : (i : ℕ) → i < r → Reachable 1 n cv (state_in w i)) (z : CycleOf w (ruled r n cv) c best)
    → (cycle_from h reached z).state ≡ state_in w best.start
unfolding cycle_from
cycle_begins {w} h reached z = ap (state_in w) z.begins
