-- A node linked anew, with a greater gain. Assumes nothing.
use mathlib.Core.Path.{◌≡◌, sym, ap, subst, subst₂, ◌∙◌}
use mathlib.Core.List.{List}
use Prim.Native.Nat.{ℕ, ◌+◌, ◌*◌, ◌≤◌, ◌<◌}
use native.Mathlib.Decide.{ℕ_discrete}
use native.Mathlib.Omega.{arith}
use lib.ListN.{length, get_or, set, length-set}
use lib.Seq.{get_or-set_same, get_or-set_other}
use Rattle.mean_cycle.specs.declared.Cycle.{Cycle}
use Rattle.mean_cycle.specs.declared.search.Graph.{Graph}
use Rattle.mean_cycle.specs.Nodes.{Arc, Frame, cyc, sum_to}
use Rattle.mean_cycle.specs.Inner.{Tree, Rooted, Off, gain, parent, label}
use Rattle.mean_cycle.proofs.Links.{decide, off_rooted, rerooted}
use Rattle.mean_cycle.proofs.Sums.{sum_grown}
use Rattle.mean_cycle.proofs.Frames.{arc_kept}

-- x is linked to v by t, with the gain e; nothing else changed
pub record Relinked (w w' : List ℕ) (n x v t e : ℕ) : Type 0 where
  pub frame : Frame w w'
  pub cycle : (i : ℕ) → cyc w' i ≡ cyc w i
  pub gain_x : gain w' x ≡ e
  pub parent_x : parent w' x ≡ v
  pub label_x : label w' x ≡ t
  pub gains : (y : ℕ) → y < n → (y ≡ x → ⊥) → gain w' y ≡ gain w y
  pub parents : (y : ℕ) → y < n → (y ≡ x → ⊥) → parent w' y ≡ parent w y
  pub labels : (y : ℕ) → y < n → (y ≡ x → ⊥) → label w' y ≡ label w y

abbrev pub linked : List ℕ → ℕ → ℕ → ℕ → ℕ → List ℕ
linked w x v t e = set (set (set w (768 + x) e) (1024 + x) v) (1280 + x) t

module _ (w : List ℕ) (x v t e : ℕ) where
  linked_other : (i : ℕ) → (i ≡ 768 + x → ⊥) → (i ≡ 1024 + x → ⊥) → (i ≡ 1280 + x → ⊥) → get_or (linked w x v t e) i 0 ≡ get_or w i 0
  linked_other i a b c =
      get_or-set_other (set (set w (768 + x) e) (1024 + x) v) (1280 + x) i t 0 c ∙ get_or-set_other (set w (768 + x) e) (1024 + x) i v 0 b ∙ get_or-set_other w (768 + x) i e 0 a

  pub relinked : (n : ℕ) → n ≤ 256 → x < n → 2048 ≤ length w → Relinked w (linked w x v t e) n x v t e
  relinked n few lt room =
      record {
        frame =
            record {
              size = simp length-set;
              low = λ i l. linked_other i (λ q. omega arith) (λ q. omega arith) (λ q. omega arith);
              high = λ i l. linked_other i (λ q. omega arith) (λ q. omega arith) (λ q. omega arith);
            };
        cycle = λ i. linked_other (1536 + i) (λ q. omega arith) (λ q. omega arith) (λ q. omega arith);
        gain_x =
            get_or-set_other (set (set w (768 + x) e) (1024 + x) v) (1280 + x) (768 + x) t 0 (λ q. omega arith) ∙ get_or-set_other (set w (768 + x) e) (1024 + x) (768 + x) v 0 (λ q. omega arith) ∙ get_or-set_same w (768 + x) e 0 (omega arith);
        parent_x =
            get_or-set_other (set (set w (768 + x) e) (1024 + x) v) (1280 + x) (1024 + x) t 0 (λ q. omega arith) ∙ get_or-set_same (set w (768 + x) e) (1024 + x) v 0 (simp length-set (omega arith));
        label_x = get_or-set_same (set (set w (768 + x) e) (1024 + x) v) (1280 + x) t 0 (simp length-set (omega arith));
        gains = λ y l ne. linked_other (768 + y) (λ q. ne (omega arith)) (λ q. omega arith) (λ q. omega arith);
        parents = λ y l ne. linked_other (1024 + y) (λ q. omega arith) (λ q. ne (omega arith)) (λ q. omega arith);
        labels = λ y l ne. linked_other (1280 + y) (λ q. omega arith) (λ q. omega arith) (λ q. ne (omega arith));
      }

module _ (w w' : List ℕ) (G : Graph) (best : Cycle) (v t x g : ℕ) (few : G.nodes ≤ 256) (tr : Tree w G best) (a : Arc w G v t x) (d : ℕ)
    (off : Off (parent w) G.nodes d v x) (re : Relinked w w' G.nodes x v t g)
    (eq : g + best.count * t ≡ gain w v + best.sum) (more : gain w x < g) where
  mono : (z : ℕ) → z < G.nodes → gain w z ≤ gain w' z
  mono z l =
      decide
      (ℕ_discrete z x)
      (λ e.
      let s : gain w' z ≡ g = ap (gain w') e ∙ re.gain_x in
      let q : gain w z ≡ gain w x = ap (gain w) e in
      omega arith)
      (λ ne. let s : gain w' z ≡ gain w z = re.gains z l ne in omega arith)

  tree_arc : (y : ℕ) → y < G.nodes → parent w' y < G.nodes → Arc w' G (parent w' y) (label w' y) y
  tree_arc y l pl =
      decide
      (ℕ_discrete y x)
      (λ e.
      subst
      (λ (z : ℕ). Arc w' G (parent w' z) (label w' z) z)
      (sym e)
      (subst₂ (λ (u s : ℕ). Arc w' G u s x) (sym re.parent_x) (sym re.label_x) (arc_kept re.frame few a)))
      (λ ne.
      subst₂
      (λ (u s : ℕ). Arc w' G u s y)
      (sym (re.parents y l ne))
      (sym (re.labels y l ne))
      (arc_kept re.frame few (tr.arc y l (subst (λ (z : ℕ). z < G.nodes) (re.parents y l ne) pl))))

  tree_less : (y : ℕ) → y < G.nodes → parent w' y < G.nodes → gain w' y + best.count * label w' y ≤ gain w' (parent w' y) + best.sum
  tree_less y l pl =
      decide
      (ℕ_discrete y x)
      (λ e.
      subst
      (λ (z : ℕ). gain w' z + best.count * label w' z ≤ gain w' (parent w' z) + best.sum)
      (sym e)
      (let b : gain w v ≤ gain w' v = mono v a.leaves in
      let q : best.count * label w' x ≡ best.count * t = ap (λ (z : ℕ). best.count * z) re.label_x in
      let u : gain w' (parent w' x) ≡ gain w' v = ap (gain w') re.parent_x in
      omega (arith, re.gain_x)))
      (λ ne.
      let pe : parent w' y ≡ parent w y = re.parents y l ne in
      let pl' : parent w y < G.nodes = subst (λ (z : ℕ). z < G.nodes) pe pl in
      let b : gain w (parent w y) ≤ gain w' (parent w y) = mono (parent w y) pl' in
      let q : best.count * label w' y ≡ best.count * label w y = ap (λ (z : ℕ). best.count * z) (re.labels y l ne) in
      let u : gain w' (parent w' y) ≡ gain w' (parent w y) = ap (gain w') pe in
      omega (arith, re.gains y l ne, tr.less y l pl'))

  tree_base : (y : ℕ) → y < G.nodes → G.nodes ≤ parent w' y → gain w' y ≡ 0
  tree_base y l pl =
      decide
      (ℕ_discrete y x)
      (λ e.
      let q : parent w' y ≡ v = ap (parent w') e ∙ re.parent_x in
      absurd (omega (arith, a.leaves)))
      (λ ne. re.gains y l ne ∙ tr.base y l (subst (λ (z : ℕ). G.nodes ≤ z) (re.parents y l ne) pl))

  tree_deep : (y : ℕ) → y < G.nodes → (e : ℕ) × Rooted (parent w') G.nodes e y
  tree_deep y l =
      let o : (e : ℕ) × Rooted (parent w) G.nodes e y = tr.deep y l in
      rerooted
      (parent w)
      (parent w')
      G.nodes
      x
      re.parents
      v
      d
      a.leaves
      re.parent_x
      (off_rooted (parent w) (parent w') G.nodes x re.parents d v a.leaves off)
      o.0
      y
      l
      o.1

  pub tree_kept : Tree w' G best
  tree_kept = record { arc = tree_arc; less = tree_less; base = tree_base; deep = tree_deep }

  pub gains_grown : sum_to (gain w) G.nodes + 1 ≤ sum_to (gain w') G.nodes
  gains_grown = sum_grown (gain w) (gain w') G.nodes x a.enters re.gains (subst (λ (z : ℕ). gain w x < z) (sym re.gain_x) more)
