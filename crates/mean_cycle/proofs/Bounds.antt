-- Gains that no arc asks to grow bound every walk. Assumes nothing.
use mathlib.Core.Path.{◌≡◌, sym, ap, subst, ◌∙◌}
use mathlib.Core.Bool.{false}
use mathlib.Core.List.{List}
use mathlib.Core.Logic.{⊎_elim}
use Prim.Native.Nat.{ℕ, zero, suc, ◌+◌, ◌*◌, ◌≤◌, ◌<◌}
use native.Mathlib.Nat.{le_of_suc-le-suc, not-suc-le-zero, eq-or-lt_of_le, mul-add, mul-suc}
use native.Mathlib.Omega.{arith}
use lib.ListN.{length}
use Rattle.diagram.specs.Diagram.{next, Permits, Walk, stay, step}
use Rattle.diagram.specs.Work.{state_in}
use Rattle.mean_cycle.specs.declared.Cycle.{Cycle}
use Rattle.mean_cycle.specs.declared.search.Graph.{Graph}
use Rattle.collision.specs.Pipeline.{total}
use Rattle.mean_cycle.specs.Nodes.{NodeWalk, rest, onward, NodeFloor, Frame, sum_to}
use Rattle.mean_cycle.specs.Inner.{Listing, Calm, gain}
use Rattle.mean_cycle.proofs.Frames.{arc_kept}
use Rattle.mean_cycle.proofs.Targets.{arc_some}

part_below : (f : ℕ → ℕ) (n y : ℕ) → y < n → f y ≤ sum_to f n
part_below f zero y l = absurd (not-suc-le-zero l)
part_below f (suc m) y l =
    ⊎_elim
    (λ e. let s : f y ≡ f m = ap f e in omega arith)
    (λ q. let s : f y ≤ sum_to f m = part_below f m y q in omega arith)
    (eq-or-lt_of_le (le_of_suc-le-suc l))

module _ (w : List ℕ) (G : Graph) (best : Cycle) (calm : (v t : ℕ) → Calm w G best v t) where
  -- the gains at the two ends of a walk
  walk_gains : {v x : ℕ} {l : List ℕ} → NodeWalk w G v l x → v < G.nodes
      → gain w v + best.sum * length l ≤ best.count * total l + sum_to (gain w) G.nodes
  walk_gains {v} rest lv = omega (arith, part_below (gain w) G.nodes v lv)
  walk_gains (onward {v} {x} {y} {t} {l} a r) lv =
      let i : gain w v + best.sum ≤ gain w x + best.count * t = calm v t x a in
      let j : gain w x + best.sum * length l ≤ best.count * total l + sum_to (gain w) G.nodes = walk_gains r a.enters in
      omega (arith, mul-suc best.sum (length l), mul-add best.count t (total l))

  pub calm_floor : 1 ≤ G.nodes → NodeFloor w G best.count best.sum
  calm_floor some =
      record {
        bound = sum_to (gain w) G.nodes;
        every = λ l x k. omega (arith, walk_gains k some);
      }

-- the same walk, and the same bound, in words of which only the search's own differ
pub walk_kept : {w w' : List ℕ} {G : Graph} {v x : ℕ} {l : List ℕ} → Frame w w' → G.nodes ≤ 256 → NodeWalk w G v l x → NodeWalk w' G v l x
walk_kept f few rest = rest
walk_kept f few (onward a k) = onward (arc_kept f few a) (walk_kept f few k)

pub floor_kept : {w w' : List ℕ} {G : Graph} {count sum : ℕ} → Frame w' w → G.nodes ≤ 256 → NodeFloor w G count sum → NodeFloor w' G count sum
floor_kept f few h = record { bound = h.bound; every = λ l x k. h.every l x (walk_kept f few k) }

-- a walk of the diagram, from node to node
pub walk_nodes : {w : List ℕ} {n cv r : ℕ} {s e : ℕ} {l : List ℕ} → Listing w (record { nodes = r; width = n; vector = cv; table = false })
    → Walk 1 n cv s l e → (v : ℕ) → v < r → state_in w v ≡ s → (x : ℕ) × NodeWalk w (record { nodes = r; width = n; vector = cv; table = false }) v l x
walk_nodes h stay v lv e = (v, rest)
walk_nodes {w} {n} {cv} {r} h (step {s} {t} {e} {l} p k) v lv same =
    let q : Permits 1 n (state_in w v) t = subst (λ (z : ℕ). Permits 1 n z t) (sym same) p in
    let a = arc_some w (record { nodes = r; width = n; vector = cv; table = false }) v t h lv q in
    let m = walk_nodes h k a.0 a.1.enters (a.1.leads ∙ ap (λ (z : ℕ). next cv z t) same) in
    (m.0, onward a.1 m.1)
