-- An arc that meets its own node above closes a cycle with the links, of a lower average. Assumes nothing.
use mathlib.Core.Path.{◌≡◌, sym, ap, subst, subst₂, ◌∙◌}
use mathlib.Core.List.{List}
use Prim.Native.Nat.{ℕ, zero, suc, ◌+◌, ◌*◌, ◌-◌, ◌≤◌, ◌<◌}
use native.Mathlib.Nat.{le_of_suc-le-suc, suc-sub-suc, sub_self, sub-zero, mul-add, suc-mul}
use native.Mathlib.Omega.{arith}
use Rattle.mean_cycle.specs.declared.Cycle.{Cycle}
use Rattle.mean_cycle.specs.declared.search.Graph.{Graph}
use Rattle.mean_cycle.specs.Nodes.{Arc, CycleOf, Frame, cyc, sum_to}
use Rattle.mean_cycle.specs.Inner.{Tree, Ends, Path, Traced, Better, gain, parent, label, up, up_sum}
use Rattle.mean_cycle.proofs.Links.{up_below, up_apart, path_depth, path_up, path_part, up_suc, path_less, spelled_at}
use Rattle.mean_cycle.proofs.Sums.{spelled_sum}
use Rattle.mean_cycle.proofs.Frames.{within_frame, arc_kept}

-- the nodes of the cycle from its end: x, then v and the nodes above it
abbrev back : (ℕ → ℕ) → ℕ → ℕ → ℕ → ℕ
back p v x zero = x
back p v x (suc j) = up p j v

module _ (w w' : List ℕ) (G : Graph) (best : Cycle) (v t x k r : ℕ) (few : G.nodes ≤ 256) (tr : Tree w G best) (a : Arc w G v t x)
    (path : Path (parent w) G.nodes k v x) (d : Ends w G.nodes v) (traced : Traced w w' v t k r) where
  closing_frame : Frame w w'
  closing_frame = within_frame 1536 1792 (omega arith) (omega arith) traced.within

  k_depth : k ≤ d.depth
  k_depth = path_depth (parent w) G.nodes k d.depth v x path d.rooted

  arc_at : (i j : ℕ) → i + j ≡ k → Arc w G (up (parent w) j v) (cyc w' i) (back (parent w) v x j)
  arc_at i zero e =
      let h : i ≡ k = omega arith in
      subst (λ (z : ℕ). Arc w G v z x) (sym (ap (cyc w') h ∙ traced.last)) a
  arc_at i (suc j) e =
      let u : ℕ = up (parent w) j v in
      let ul : u < G.nodes = up_below (parent w) G.nodes j d.depth v (omega (arith, k_depth)) a.leaves d.rooted in
      let pl : parent w u < G.nodes = path_part (parent w) G.nodes j k v x (omega arith) path in
      let c : cyc w' i ≡ label w u = spelled_at (parent w) (label w) (cyc w') k v i j traced.spelled e in
      subst₂ (λ (y z : ℕ). Arc w G y z u) (sym (up_suc (parent w) j v)) (sym c) (tr.arc u ul pl)

  node_at : (i : ℕ) → i ≤ k → back (parent w) v x (suc k - i) ≡ up (parent w) (k - i) v
  node_at i l = let e : suc k - i ≡ suc (k - i) = omega arith in ap (back (parent w) v x) e

  closing : CycleOf w' G (cyc w') (record { count = suc k; sum = r; start = x })
  closing =
      record {
        node = λ i. back (parent w) v x (suc k - i);
        begins = ap (back (parent w) v x) (sub-zero (suc k)) ∙ path_up (parent w) G.nodes k v x path;
        some = omega arith;
        few = omega (arith, k_depth, d.within);
        arcs = λ i l.
            arc_kept
            closing_frame
            few
            (subst₂
            (λ (y z : ℕ). Arc w G y (cyc w' i) z)
            (sym (node_at i (le_of_suc-le-suc l)))
            (sym (ap (back (parent w) v x) (suc-sub-suc k i)))
            (arc_at i (k - i) (omega arith)));
        closed =
            ap (back (parent w) v x) (sub_self (suc k)) ∙ sym (path_up (parent w) G.nodes k v x path) ∙ sym (ap (back (parent w) v x) (sub-zero (suc k)));
        apart = λ i j l m e.
            let s : k - i ≡ k - j =
            up_apart
            (parent w)
            G.nodes
            d.depth
            v
            (k - i)
            (k - j)
            d.rooted
            (omega (arith, k_depth))
            (omega (arith, k_depth))
            (sym (node_at i (le_of_suc-le-suc l)) ∙ e ∙ node_at j (le_of_suc-le-suc m))
            in
            omega arith;
        total =
            let s : sum_to (cyc w') k ≡ up_sum (parent w) (label w) k v = spelled_sum (parent w) (label w) (cyc w') k v traced.spelled in
            omega (arith, traced.last, traced.total);
      }

  closing_lower : gain w x + best.count * t < gain w v + best.sum → best.count * r < suc k * best.sum
  closing_lower lt =
      let s : gain w v + best.count * up_sum (parent w) (label w) k v ≤ gain w x + k * best.sum =
      path_less (parent w) (label w) (gain w) G.nodes best.count best.sum tr.less k v x a.leaves path
      in
      let e : best.count * r ≡ best.count * t + best.count * up_sum (parent w) (label w) k v =
      ap (λ (z : ℕ). best.count * z) traced.total ∙ mul-add best.count t (up_sum (parent w) (label w) k v)
      in
      omega (arith, suc-mul k best.sum)

  pub closing_better : gain w x + best.count * t < gain w v + best.sum → Better w' G best (record { count = suc k; sum = r; start = x })
  closing_better lt = record { cycle = closing; lower = closing_lower lt }
