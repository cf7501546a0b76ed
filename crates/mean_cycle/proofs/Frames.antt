-- What the search keeps: the listing, its arcs and the best cycle, over words that changed elsewhere. Assumes nothing.
use mathlib.Core.Path.{◌≡◌, refl, sym, ap, subst, ◌∙◌}
use mathlib.Core.Bool.{Bool, true, false}
use mathlib.Core.List.{List}
use Prim.Native.Nat.{ℕ, suc, ◌+◌, ◌*◌, ◌^◌, ◌≤◌, ◌<◌}
use native.Mathlib.Nat.{mul-le-mul, mul-le-mul_right}
use native.Mathlib.Omega.{arith}
use lib.ListN.{length}
use Rattle.diagram.specs.Diagram.{next, Permits}
use Rattle.diagram.proofs.IndexLaws.{index_kept}
use Rattle.diagram.specs.Work.{state_in}
use Rattle.mean_cycle.specs.declared.Cycle.{Cycle}
use Rattle.mean_cycle.specs.declared.search.Graph.{Graph}
use Rattle.mean_cycle.specs.Nodes.{Leads, arc_word, Arc, CycleOf, Frame, cyc, sum_to}
use Rattle.mean_cycle.specs.Inner.{Source, Listing, Within, Tree, Ready, Ends, Rooted, gain, parent, label}
use Rattle.mean_cycle.proofs.Links.{depth_below, gain_below}
use Rattle.mean_cycle.proofs.Sums.{sum_same, sum_below}

-- Frames

pub frame_refl : (w : List ℕ) → Frame w w
frame_refl w = record { size = refl; low = λ i l. refl; high = λ i l. refl }

pub frame_trans : {w w' w'' : List ℕ} → Frame w w' → Frame w' w'' → Frame w w''
frame_trans a b =
    record {
      size = b.size ∙ a.size;
      low = λ i l. b.low i l ∙ a.low i l;
      high = λ i l. b.high i l ∙ a.high i l;
    }

pub frame_back : {w w' : List ℕ} → Frame w w' → Frame w' w
frame_back a = record { size = sym a.size; low = λ i l. sym (a.low i l); high = λ i l. sym (a.high i l) }

pub within_frame : (lo hi : ℕ) {w w' : List ℕ} → 768 ≤ lo → hi ≤ 1792 → Within lo hi w w' → Frame w w'
within_frame lo hi a b h =
    record { size = h.size; low = λ i l. h.below i (omega arith); high = λ i l. h.above i (omega arith) }

-- The listing

pub listing_few : {w : List ℕ} {G : Graph} → Listing w G → G.nodes ≤ 256
listing_few h = h.few

-- the table of arcs stands where nothing changes
table_kept : {w w' : List ℕ} → Frame w w' → (v t : ℕ) → 1 ≤ t → arc_word w' v t ≡ arc_word w v t
table_kept f v t h = f.high (1791 + v * 32 + t) (omega arith)

source_kept : (b : Bool) (G : Graph) {w w' : List ℕ} → Frame w w' → G.nodes ≤ 256 → Source b w G → Source b w' G
source_kept true G {w} {w'} f few h =
    record {
      room = omega (arith, f.size, h.room);
      closed = λ i t l p.
          subst (λ (x : ℕ). x < G.nodes) (sym (table_kept f i t p.positive))
          (h.closed i t l (subst (λ (s : ℕ). Permits 1 G.width s t) (f.low i (omega arith)) p));
    }
source_kept false G {w} {w'} f few h =
    let same : (i : ℕ) → i < G.nodes → state_in w' i ≡ state_in w i = λ i l. f.low i (omega arith) in
    record {
      index = index_kept G.nodes f.size f.low h.index;
      apart = λ i j l m e. h.apart i j l m (sym (same i l) ∙ e ∙ same j m);
      closed = λ i t l p.
          let r = h.closed i t l (subst (λ (s : ℕ). Permits 1 G.width s t) (same i l) p) in
          (r.0, (r.1.0, same r.0 r.1.0 ∙ r.1.1 ∙ ap (λ (s : ℕ). next G.vector s t) (sym (same i l))));
    }

pub listing_kept : {w w' : List ℕ} {G : Graph} → Frame w w' → Listing w G → Listing w' G
listing_kept {w} {w'} {G} f h =
    let few = h.few in
    record {
      few = few;
      room = omega (arith, f.size, h.room);
      some = h.some;
      narrow = h.narrow;
      below = λ i l. subst (λ (s : ℕ). s < 2 ^ G.width) (sym (f.low i (omega arith))) (h.below i l);
      source = source_kept G.table G f few h.source;
    }

leads_kept : (b : Bool) (G : Graph) (v t x : ℕ) {w w' : List ℕ} → Frame w w' → v < 256 → x < 256 → 1 ≤ t → Leads b w G v t x → Leads b w' G v t x
leads_kept true G v t x f hv hx p a = table_kept f v t p ∙ a
leads_kept false G v t x f hv hx p a =
    f.low x (omega arith) ∙ a ∙ ap (λ (s : ℕ). next G.vector s t) (sym (f.low v (omega arith)))

pub arc_kept : {w w' : List ℕ} {G : Graph} {v t x : ℕ} → Frame w w' → G.nodes ≤ 256 → Arc w G v t x → Arc w' G v t x
arc_kept {G = G} {v} {t} {x} f few a =
    let from = f.low v (omega (arith, a.leaves)) in
    record {
      leaves = a.leaves;
      enters = a.enters;
      permits = subst (λ (s : ℕ). Permits 1 G.width s t) (sym from) a.permits;
      high = a.high;
      leads = leads_kept G.table G v t x f (omega (arith, a.leaves)) (omega (arith, a.enters)) a.permits.positive a.leads;
    }

-- Cycles

pub cycle_kept :
    {w w' : List ℕ} {G : Graph} {c c' : ℕ → ℕ} {best : Cycle} → Frame w w' → G.nodes ≤ 256 → ((i : ℕ) → i < best.count → c' i ≡ c i)
    → CycleOf w G c best → CycleOf w' G c' best
cycle_kept {w} {w'} {G} {c} {c'} {best} f few same z =
    record {
      node = z.node;
      begins = z.begins;
      some = z.some;
      few = z.few;
      arcs = λ i l. subst (λ (t : ℕ). Arc w' G (z.node i) t (z.node (suc i))) (sym (same i l)) (arc_kept f few (z.arcs i l));
      closed = z.closed;
      apart = z.apart;
      total = z.total ∙ sym (sum_same c c' best.count same);
    }

cycle_sum_lem : {w : List ℕ} {G : Graph} {c : ℕ → ℕ} {best : Cycle} → CycleOf w G c best → best.sum ≤ best.count * 32
cycle_sum_lem {w} {G} {c} {best} z =
    let r : sum_to c best.count ≤ best.count * 32 = sum_below c best.count 32 (λ y l. (z.arcs y l).high) in
    omega (arith, z.total)

pub ready_kept : {w w' : List ℕ} {G : Graph} {best : Cycle} → Frame w w' → ((i : ℕ) → i < best.count → cyc w' i ≡ cyc w i) → Ready w G best → Ready w' G best
ready_kept f same h = record { listing = listing_kept f h.listing; cycle = cycle_kept f (listing_few h.listing) same h.cycle }

pub ready_few : {w : List ℕ} {G : Graph} {best : Cycle} → Ready w G best → G.nodes ≤ 256
ready_few h = h.listing.few

pub ready_count : {w : List ℕ} {G : Graph} {best : Cycle} → Ready w G best → best.count ≤ 256
ready_count h = omega (arith, h.cycle.few, ready_few h)

pub ready_sum : {w : List ℕ} {G : Graph} {best : Cycle} → Ready w G best → best.sum ≤ 8192
ready_sum h = omega (arith, cycle_sum_lem h.cycle, ready_count h)

pub ready_cost : {w : List ℕ} {G : Graph} {best : Cycle} (t : ℕ) → Ready w G best → t ≤ G.width + 1 → best.count * t ≤ 8192
ready_cost t h l =
    let few : t ≤ 32 = omega (arith, h.listing.narrow) in
    mul-le-mul (ready_count h) few

-- the places of a node's words, and the size of the best cycle
pub record Held (w : List ℕ) (best : Cycle) (v : ℕ) : Type 0 where
  pub room : 2048 ≤ length w
  pub node : v < 256
  pub count : best.count ≤ 256
  pub sum : best.sum ≤ 8192

pub ready_held : {w : List ℕ} {G : Graph} {best : Cycle} {v : ℕ} → Ready w G best → v < G.nodes → Held w best v
ready_held h l =
    let few = ready_few h in
    record { room = h.listing.room; node = omega arith; count = ready_count h; sum = ready_sum h }

-- The links end within the number of nodes, and a gain is small

pub tree_ends : {w : List ℕ} {G : Graph} {best : Cycle} → Tree w G best → (y : ℕ) → y < G.nodes → Ends w G.nodes y
tree_ends {w} {G} tr y l =
    let d : (d : ℕ) × Rooted (parent w) G.nodes d y = tr.deep y l in
    record { depth = d.0; within = depth_below (parent w) G.nodes d.0 y l d.1; rooted = d.1 }

pub tree_gain : {w : List ℕ} {G : Graph} {best : Cycle} → Tree w G best → G.nodes ≤ 256 → (y : ℕ) → y < G.nodes → gain w y ≤ 255 * best.sum
tree_gain {w} {G} {best} tr few y l =
    let d : Ends w G.nodes y = tree_ends tr y l in
    let a : gain w y ≤ d.depth * best.sum =
    gain_below (parent w) (label w) (gain w) G.nodes best.count best.sum tr.less tr.base d.depth y l d.rooted
    in
    let b : d.depth * best.sum ≤ 255 * best.sum = mul-le-mul_right best.sum (omega (arith, d.within)) in
    omega arith
