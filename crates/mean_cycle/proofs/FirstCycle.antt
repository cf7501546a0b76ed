-- The greedy walk and the cycle that it ends in. Assumes nothing.
use mathlib.Core.Path.{◌≡◌, refl, sym, ap, subst, subst₂, subst₃, ◌∙◌}
use mathlib.Core.List.{List}
use Prim.Native.Nat.{ℕ, suc, ◌+◌, ◌*◌, ◌-◌, ◌≤◌, ◌<◌}
use native.Mathlib.Nat.{not-suc-le-zero}
use native.Mathlib.Numerals.{add-one}
use native.Mathlib.Decide.{ℕ_discrete}
use native.Mathlib.Omega.{arith}
use borrow.Author.Count.{below_more}
use lib.ListN.{length, get_or, set, length-set}
use lib.Seq.{get_or-set_same, get_or-set_other}
use Rattle.mean_cycle.specs.declared.Cycle.{Cycle}
use Rattle.mean_cycle.specs.declared.search.Graph.{Graph}
use Rattle.mean_cycle.specs.Nodes.{Arc, CycleOf, Frame, cyc, sum_to}
use Rattle.mean_cycle.specs.Inner.{Listing, Within, Cleared, Copyable, Copied, Begun, gain, label}
use Rattle.mean_cycle.proofs.Links.{decide, pick, pigeon}
use Rattle.mean_cycle.proofs.Sums.{sum_same}
use Rattle.mean_cycle.proofs.Frames.{frame_refl, frame_trans, within_frame, listing_few, listing_kept, arc_kept, cycle_kept}

-- copy

pub record Copying (w₀ w : List ℕ) (from to sum j : ℕ) : Type 0 where
  pub within : Within 1536 1792 w₀ w
  pub upto : j ≤ to - from
  pub spelled : (i : ℕ) → i < j → cyc w i ≡ label w₀ (from + i)
  pub total : sum ≡ sum_to (cyc w) j
  pub small : sum ≤ 32 * j

copy_label : {w₀ w : List ℕ} {from to sum j : ℕ} → Copyable w₀ from to → Copying w₀ w from to sum j → j < to - from → get_or w (1280 + from + j) 0 ≡ label w₀ (from + j)
copy_label {w₀} {w} {from} {to} {sum} {j} h c l =
    let e : 1280 + from + j ≡ 1280 + (from + j) = omega arith in
    c.within.below (1280 + from + j) (omega (arith, h.few)) ∙ ap (λ (k : ℕ). get_or w₀ k 0) e

copy_small : {w₀ w : List ℕ} {from to sum j : ℕ} → Copyable w₀ from to → Copying w₀ w from to sum j → j < to - from → get_or w (1280 + from + j) 0 ≤ 32
copy_small {from = from} {j = j} h c l = omega (arith, copy_label h c l, h.labels (from + j) (omega arith))

pub copy_more : {w₀ w : List ℕ} {from to sum j : ℕ} → Copyable w₀ from to → Copying w₀ w from to sum j → j < to - from
    → Copying w₀ (set w (1536 + j) (get_or w (1280 + from + j) 0)) from to (sum + get_or w (1280 + from + j) 0) (j + 1)
copy_more {w₀} {w} {from} {to} {sum} {j} h c l =
    let t : ℕ = get_or w (1280 + from + j) 0 in
    let w' : List ℕ = set w (1536 + j) t in
    let last : cyc w' j ≡ t = get_or-set_same w (1536 + j) t 0 (omega (arith, c.within.size, h.room, h.few)) in
    let kept : (i : ℕ) → i < j → cyc w' i ≡ cyc w i = λ i m. get_or-set_other w (1536 + j) (1536 + i) t 0 (λ e. omega arith) in
    record {
      within =
          record {
            size = length-set w (1536 + j) t ∙ c.within.size;
            below = λ i m. get_or-set_other w (1536 + j) i t 0 (λ e. omega arith) ∙ c.within.below i m;
            above = λ i m. get_or-set_other w (1536 + j) i t 0 (λ e. omega (arith, h.few)) ∙ c.within.above i m;
          };
      upto = omega arith;
      spelled =
          below_more (λ (i : ℕ). cyc w' i ≡ label w₀ (from + i)) j
          (λ i m. kept i m ∙ c.spelled i m) (last ∙ copy_label h c l);
      total =
          let r : sum_to (cyc w') j ≡ sum_to (cyc w) j = sum_same (cyc w) (cyc w') j kept in
          subst (λ (k : ℕ). sum + t ≡ sum_to (cyc w') k) (sym (add-one j)) (omega (arith, c.total));
      small = omega (arith, c.small, copy_small h c l);
    }

-- the walk

-- i steps from node 0 to v: node 0, .., node i, with their marks and latencies in the words
pub record Walking (w₀ w : List ℕ) (G : Graph) (v i : ℕ) : Type 0 where
  pub frame : Frame w₀ w
  pub listing : Listing w G
  pub node : ℕ → ℕ
  pub here : node i ≡ v
  pub inside : v < G.nodes
  pub arcs : (j : ℕ) → j < i → Arc w G (node j) (label w j) (node (suc j))
  pub marks : (j : ℕ) → j < i → gain w (node j) ≡ suc j
  pub marked : (u : ℕ) → u < G.nodes → (gain w u ≡ 0 → ⊥) → (gain w u ≤ i) × (node (gain w u - 1) ≡ u)

pub walk_start : {w w' : List ℕ} {G : Graph} → Listing w G → Cleared w w' G.nodes → Walking w' w' G 0 0
walk_start {w} {w'} {G} h c =
    record {
      frame = frame_refl w';
      listing = listing_kept (within_frame 768 1280 (omega arith) (omega arith) c.within) h;
      node = λ i. 0;
      here = refl;
      inside = h.some;
      arcs = λ j l. absurd (not-suc-le-zero l);
      marks = λ j l. absurd (not-suc-le-zero l);
      marked = λ u l ne. absurd (ne (c.gains u l));
    }

-- the nodes that the walk left are different
walk_apart : {w₀ w : List ℕ} {G : Graph} {v i : ℕ} (h : Walking w₀ w G v i) → (j k : ℕ) → j < i → k < i → h.node j ≡ h.node k → j ≡ k
walk_apart {w = w} h j k l m e = let q : gain w (h.node j) ≡ gain w (h.node k) = ap (gain w) e in omega (arith, h.marks j l, h.marks k m)

walk_few : {w₀ w : List ℕ} {G : Graph} {v i : ℕ} → Walking w₀ w G v i → i ≤ G.nodes
walk_few {G = G} {i = i} h = pigeon G.nodes i h.node (λ j l. (h.arcs j l).leaves) (walk_apart h)

-- so is the node at which it is, if that has no mark
walk_new : {w₀ w : List ℕ} {G : Graph} {v i : ℕ} (h : Walking w₀ w G v i) → gain w v ≡ 0 → (j : ℕ) → j < i → h.node j ≡ v → ⊥
walk_new {w = w} h z j l e = let q : gain w (h.node j) ≡ gain w _ = ap (gain w) e in omega (arith, h.marks j l)

pub walk_fewer : {w₀ w : List ℕ} {G : Graph} {v i : ℕ} → Walking w₀ w G v i → gain w v ≡ 0 → i < G.nodes
walk_fewer {w = w} {G = G} {v = v} {i = i} h z = pigeon G.nodes (suc i) h.node below apart
  where
    below : (j : ℕ) → j < suc i → h.node j < G.nodes
    below j l =
        decide
        (ℕ_discrete j i)
        (λ e. subst (λ (u : ℕ). u < G.nodes) (sym (ap h.node e ∙ h.here)) h.inside)
        (λ ne. (h.arcs j (omega arith)).leaves)

    at_end : (j k : ℕ) → j < i → k ≡ i → h.node j ≡ h.node k → ⊥
    at_end j k l e q = walk_new h z j l (q ∙ ap h.node e ∙ h.here)

    apart : (j k : ℕ) → j < suc i → k < suc i → h.node j ≡ h.node k → j ≡ k
    apart j k l m q =
        decide
        (ℕ_discrete j i)
        (λ e. decide (ℕ_discrete k i) (λ f. e ∙ sym f) (λ n. absurd (at_end k j (omega arith) e (sym q))))
        (λ ne. decide (ℕ_discrete k i) (λ f. absurd (at_end j k (omega arith) f q)) (λ n. walk_apart h j k (omega arith) (omega arith) q))

-- the places of a step in the words
pub record Inside (w : List ℕ) (v i : ℕ) : Type 0 where
  pub room : 2048 ≤ length w
  pub node : v < 256
  pub step : i ≤ 256

pub walk_inside : {w₀ w : List ℕ} {G : Graph} {v i : ℕ} → Walking w₀ w G v i → Inside w v i
walk_inside h =
    let few = listing_few h.listing in
    record { room = h.listing.room; node = omega (arith, h.inside); step = omega (arith, walk_few h) }

pub walk_fresh : {w₀ w : List ℕ} {G : Graph} {v i : ℕ} → Walking w₀ w G v i → gain w v ≡ 0 → Inside w v (suc i)
walk_fresh h z =
    let few = listing_few h.listing in
    record { room = h.listing.room; node = omega (arith, h.inside); step = omega (arith, walk_fewer h z) }

-- a function with another value at k
abbrev with_at : (ℕ → ℕ) → ℕ → ℕ → ℕ → ℕ
with_at f k x j = pick (ℕ_discrete j k) x (f j)

with_here : (f : ℕ → ℕ) (k x : ℕ) → with_at f k x k ≡ x
with_here f k x = go (ℕ_discrete k k)
  where
    go : (d : Dec (k ≡ k)) → pick d x (f k) ≡ x
    go (yes e) = refl
    go (no n) = absurd (n refl)

with_other : (f : ℕ → ℕ) (k x j : ℕ) → (j ≡ k → ⊥) → with_at f k x j ≡ f j
with_other f k x j ne = go (ℕ_discrete j k)
  where
    go : (d : Dec (j ≡ k)) → pick d x (f j) ≡ f j
    go (yes e) = absurd (ne e)
    go (no n) = refl

-- a step: the node v is marked, and the latency t leads on to x
abbrev pub stepped : List ℕ → ℕ → ℕ → ℕ → List ℕ
stepped w v i t = set (set w (768 + v) (i + 1)) (1280 + i) t

module _ (w₀ w : List ℕ) (G : Graph) (v i t x : ℕ) (h : Walking w₀ w G v i) (new : gain w v ≡ 0) (a : Arc w G v t x) where
  few : G.nodes ≤ 256
  few = listing_few h.listing

  fewer : i < G.nodes
  fewer = walk_fewer h new

  other : (k : ℕ) → (k ≡ 768 + v → ⊥) → (k ≡ 1280 + i → ⊥) → get_or (stepped w v i t) k 0 ≡ get_or w k 0
  other k p q = get_or-set_other (set w (768 + v) (i + 1)) (1280 + i) k t 0 q ∙ get_or-set_other w (768 + v) k (i + 1) 0 p

  step_frame : Frame w (stepped w v i t)
  step_frame =
      record {
        size = simp length-set;
        low = λ k l. other k (λ e. omega arith) (λ e. omega arith);
        high = λ k l. other k (λ e. omega (arith, few, h.inside)) (λ e. omega (arith, few, fewer));
      }

  mark_here : gain (stepped w v i t) v ≡ suc i
  mark_here =
      get_or-set_other (set w (768 + v) (i + 1)) (1280 + i) (768 + v) t 0 (λ e. omega (arith, few, h.inside))
      ∙ get_or-set_same w (768 + v) (i + 1) 0 (omega (arith, few, h.inside, h.listing.room))
      ∙ add-one i

  mark_other : (u : ℕ) → u < G.nodes → (u ≡ v → ⊥) → gain (stepped w v i t) u ≡ gain w u
  mark_other u l ne = other (768 + u) (λ e. ne (omega arith)) (λ e. omega (arith, few))

  label_here : label (stepped w v i t) i ≡ t
  label_here = get_or-set_same (set w (768 + v) (i + 1)) (1280 + i) t 0 (simp length-set (omega (arith, few, fewer, h.listing.room)))

  label_other : (j : ℕ) → j < i → label (stepped w v i t) j ≡ label w j
  label_other j l = other (1280 + j) (λ e. omega (arith, few, h.inside)) (λ e. omega arith)

  node_before : (j : ℕ) → j ≤ i → with_at h.node (suc i) x j ≡ h.node j
  node_before j l = with_other h.node (suc i) x j (λ e. omega arith)

  step_arc : (j : ℕ) → j < suc i → Arc (stepped w v i t) G (with_at h.node (suc i) x j) (label (stepped w v i t) j) (with_at h.node (suc i) x (suc j))
  step_arc j l =
      decide
      (ℕ_discrete j i)
      (λ e.
      subst
      (λ (k : ℕ). Arc (stepped w v i t) G (with_at h.node (suc i) x k) (label (stepped w v i t) k) (with_at h.node (suc i) x (suc k)))
      (sym e)
      (subst₃
      (λ (p q r : ℕ). Arc (stepped w v i t) G p q r)
      (sym (node_before i (omega arith) ∙ h.here))
      (sym label_here)
      (sym (with_here h.node (suc i) x))
      (arc_kept step_frame few a)))
      (λ ne.
      let m : j < i = omega arith in
      subst₃
      (λ (p q r : ℕ). Arc (stepped w v i t) G p q r)
      (sym (node_before j (omega arith)))
      (sym (label_other j m))
      (sym (node_before (suc j) m))
      (arc_kept step_frame few (h.arcs j m)))

  step_mark : (j : ℕ) → j < suc i → gain (stepped w v i t) (with_at h.node (suc i) x j) ≡ suc j
  step_mark j l =
      ap (gain (stepped w v i t)) (node_before j (omega arith))
      ∙ decide
      (ℕ_discrete j i)
      (λ e. ap (gain (stepped w v i t)) (ap h.node e ∙ h.here) ∙ mark_here ∙ ap suc (sym e))
      (λ ne.
      let m : j < i = omega arith in
      mark_other (h.node j) (h.arcs j m).leaves (walk_new h new j m) ∙ h.marks j m)

  step_marked : (u : ℕ) → u < G.nodes → (gain (stepped w v i t) u ≡ 0 → ⊥)
      → (gain (stepped w v i t) u ≤ suc i) × (with_at h.node (suc i) x (gain (stepped w v i t) u - 1) ≡ u)
  step_marked u l ne =
      decide
      (ℕ_discrete u v)
      (λ e.
      let g : gain (stepped w v i t) u ≡ suc i = ap (gain (stepped w v i t)) e ∙ mark_here in
      let k : gain (stepped w v i t) u - 1 ≡ i = omega arith in
      (omega arith, ap (with_at h.node (suc i) x) k ∙ node_before i (omega arith) ∙ h.here ∙ sym e))
      (λ n.
      let g : gain (stepped w v i t) u ≡ gain w u = mark_other u l n in
      let o = h.marked u l (λ z. ne (g ∙ z)) in
      let low : gain w u ≤ i = o.0 in
      let k : gain (stepped w v i t) u - 1 ≡ gain w u - 1 = omega arith in
      (omega arith, ap (with_at h.node (suc i) x) k ∙ node_before (gain w u - 1) (omega arith) ∙ o.1))

  walk_suc : Walking w₀ (stepped w v i t) G x (suc i)
  walk_suc =
      record {
        frame = frame_trans h.frame step_frame;
        listing = listing_kept step_frame h.listing;
        node = with_at h.node (suc i) x;
        here = with_here h.node (suc i) x;
        inside = a.enters;
        arcs = step_arc;
        marks = step_mark;
        marked = step_marked;
      }

  pub walk_more : Walking w₀ (stepped w v i t) G x (i + 1)
  walk_more = subst (λ (k : ℕ). Walking w₀ (stepped w v i t) G x k) (sym (add-one i)) walk_suc

-- the walk is at a node that it left: a cycle
module _ (w₀ w : List ℕ) (G : Graph) (v i : ℕ) (h : Walking w₀ w G v i) (old : gain w v ≡ 0 → ⊥) where
  pub walk_copyable : Copyable w (gain w v - 1) i
  walk_copyable =
      let o = h.marked v h.inside old in
      record {
        room = h.listing.room;
        some = omega (arith, o.0);
        few = omega (arith, walk_few h, listing_few h.listing);
        labels = λ j l. (h.arcs j l).high;
      }

  module _ (w' : List ℕ) (r : Cycle) (c : Copied w w' (gain w v - 1) i v r) where
    copy_frame : Frame w w'
    copy_frame = within_frame 1536 1792 (omega arith) (omega arith) c.within

    closing : CycleOf w G (cyc w') r
    closing =
        let m : ℕ = gain w v - 1 in
        let o = h.marked v h.inside old in
        let low : gain w v ≤ i = o.0 in
        let n : r.count ≡ i - m = c.count in
        let end : m + r.count ≡ i = omega arith in
        record {
          node = λ j. h.node (m + j);
          begins = let z : m + 0 ≡ m = omega arith in ap h.node z ∙ o.1 ∙ sym c.begins;
          some = omega arith;
          few = omega (arith, walk_few h);
          arcs = λ j l.
              let e : suc (m + j) ≡ m + suc j = omega arith in
              subst₂
              (λ (p q : ℕ). Arc w G (h.node (m + j)) p (h.node q))
              (sym (c.spelled j (omega arith)))
              e
              (h.arcs (m + j) (omega arith));
          closed =
              let z : m ≡ m + 0 = omega arith in
              ap h.node end ∙ h.here ∙ sym o.1 ∙ ap h.node z;
          apart = λ j k l q e.
              let s : m + j ≡ m + k = walk_apart h (m + j) (m + k) (omega arith) (omega arith) e in
              omega arith;
          total = c.total ∙ ap (sum_to (cyc w')) (sym n);
        }

    pub walk_end : {w₁ : List ℕ} → Frame w₁ w₀ → Begun w₁ w' G r
    walk_end f =
        record {
          frame = frame_trans f (frame_trans h.frame copy_frame);
          ready =
              record {
                listing = listing_kept copy_frame h.listing;
                cycle = cycle_kept copy_frame (listing_few h.listing) (λ i l. refl) closing;
              };
        }
