-- Visits, sweeps, rounds and the search: the loops' invariants, and what a turn keeps. Assumes nothing.
use mathlib.Core.Path.{◌≡◌, refl, sym, subst, ◌∙◌}
use mathlib.Core.Bool.{Bool, true, false}
use mathlib.Core.List.{List}
use Prim.Native.Nat.{ℕ, ◌+◌, ◌*◌, ◌-◌, ◌/◌, ◌≤◌, ◌<◌}
use native.Mathlib.Nat.{mul-le-mul_left}
use native.Mathlib.Decide.{dec_lt}
use native.Mathlib.Omega.{arith}
use borrow.Author.Count.{below_more}
use Rattle.words.specs.Bits.{is_set, zero_from}
use Rattle.words.proofs.Tests.{nowhere}
use Rattle.words.proofs.BitLaws.{set_below, zero_unset}
use Rattle.words.proofs.ZeroLaws.{zero_least, zero_skips, zero_most}
use Rattle.diagram.specs.Diagram.{Permits}
use Rattle.diagram.specs.Work.{state_in}
use Rattle.mean_cycle.specs.declared.Cycle.{Cycle}
use Rattle.mean_cycle.specs.declared.search.Graph.{Graph}
use Rattle.mean_cycle.specs.Nodes.{Frame, Least, sum_to}
use Rattle.mean_cycle.specs.Inner.{Listing, Tree, Calm, Ready, Cleared, Stepped, Visited, Swept, Rounded, Begun, gain}
use Rattle.mean_cycle.proofs.Links.{decide}
use Rattle.mean_cycle.proofs.Sums.{sum_below, mean_falls}
use Rattle.mean_cycle.proofs.Frames.{frame_refl, frame_trans, frame_back, within_frame, listing_kept, cycle_kept, ready_kept, ready_few, ready_count, tree_gain}
use Rattle.mean_cycle.proofs.Bounds.{calm_floor, floor_kept}

-- visit

-- the arcs of v below t are done
pub record Visiting (w₀ w : List ℕ) (G : Graph) (best : Cycle) (v t moved : ℕ) : Type 0 where
  pub frame : Frame w₀ w
  pub tree : Tree w G best
  pub ready : Ready w G best
  pub some : 1 ≤ t
  pub upto : t ≤ G.width + 2
  pub few : moved < t
  pub calm : moved ≡ 0 → (w ≡ w₀) × ((s : ℕ) → s < t → Calm w₀ G best v s)
  pub grown : sum_to (gain w₀) G.nodes + moved ≤ sum_to (gain w) G.nodes

pub visit_start : {w : List ℕ} {G : Graph} {best : Cycle} (v : ℕ) → Ready w G best → Tree w G best → Visiting w w G best v 1 0
visit_start {w} v r tr =
    record {
      frame = frame_refl w;
      tree = tr;
      ready = r;
      some = omega arith;
      upto = omega arith;
      few = omega arith;
      calm = λ e. (refl, λ s l x a. absurd (omega (arith, a.permits.positive)));
      grown = omega arith;
    }

pub visit_more :
    {w₀ w w' : List ℕ} {G : Graph} {best best' : Cycle} {v t moved moved' : ℕ} {found : Bool} → Visiting w₀ w G best v t moved → t ≤ G.width + 1
    → Stepped w w' G best v t found moved' best' → found ≡ false → Visiting w₀ w' G best v (t + 1) (moved + moved')
visit_more {w₀} {w} {w'} {G} {best} {best'} {v} {t} {moved} {moved'} h le s no-find =
    record {
      frame = frame_trans h.frame s.frame;
      tree = s.tree no-find;
      ready = s.ready no-find;
      some = omega arith;
      upto = omega arith;
      few = omega (arith, h.few, s.one);
      calm = λ e.
          let z : moved ≡ 0 = omega arith in
          let q : moved' ≡ 0 = omega arith in
          let c = h.calm z in
          let r = s.still q in
          (r.0 ∙ c.0, below_more (λ (b : ℕ). Calm w₀ G best v b) t c.1 (subst (λ (u : List ℕ). Calm u G best v t) c.0 r.1));
      grown = omega (arith, h.grown, s.grown no-find);
    }

pub visit_found :
    {w₀ w w' : List ℕ} {G : Graph} {best best' : Cycle} {v t moved moved' : ℕ} {found : Bool} → Visiting w₀ w G best v t moved
    → Stepped w w' G best v t found moved' best' → found ≡ true → Visited w₀ w' G best v found moved' best'
visit_found h s e =
    record {
      frame = frame_trans h.frame s.frame;
      better = s.better;
      tree = s.tree;
      ready = s.ready;
      few = omega (arith, s.one);
      still = λ n. nowhere (sym n ∙ e);
      grown = λ n. nowhere (sym n ∙ e);
    }

-- from the latency t on, which costs as much as the gain of v can bring, all is calm
calm_beyond : {w : List ℕ} {G : Graph} (best : Cycle) {v : ℕ} (t : ℕ) {s : ℕ} → gain w v + best.sum ≤ best.count * t → t ≤ s → Calm w G best v s
calm_beyond best t h l x a = omega (arith, mul-le-mul_left best.count l)

-- there is no arc beyond n + 1
calm_long : {w : List ℕ} {G : Graph} (best : Cycle) {v t : ℕ} → G.width + 1 < t → Calm w G best v t
calm_long best h x a = absurd (omega (arith, a.permits.small))

visit_left :
    {w₀ w : List ℕ} {G : Graph} {best best' : Cycle} {v t moved : ℕ} → Visiting w₀ w G best v t moved → moved ≤ 32
    → ((s : ℕ) → t ≤ s → Calm w G best v s) → Visited w₀ w G best v false moved best'
visit_left {w₀} {w} {G} {best} {best'} {v} {t} h few rest =
    record {
      frame = h.frame;
      better = λ e. nowhere e;
      tree = λ e. h.tree;
      ready = λ e. h.ready;
      few = few;
      still = λ e z.
          let c = h.calm z in
          (c.0, λ s. decide (dec_lt s t) (λ l. c.1 s l) (λ l. subst (λ (u : List ℕ). Calm u G best v s) c.0 (rest s (omega arith))));
      grown = λ e. h.grown;
    }

pub visit_stop :
    {w₀ w : List ℕ} {G : Graph} {best best' : Cycle} {v t moved : ℕ} → Visiting w₀ w G best v t moved → t ≤ G.width + 1
    → gain w v + best.sum ≤ best.count * t → Visited w₀ w G best v false moved best'
visit_stop {best = best} {t = t} h le stop = visit_left h (omega (arith, h.few, h.ready.listing.narrow)) (λ s l. calm_beyond best t stop l)

pub visit_end :
    {w₀ w : List ℕ} {G : Graph} {best best' : Cycle} {v t moved : ℕ} → Visiting w₀ w G best v t moved → G.width + 1 < t
    → Visited w₀ w G best v false moved best'
visit_end {best = best} h l = visit_left h (omega (arith, h.few, h.upto, h.ready.listing.narrow)) (λ s m. calm_long best (omega arith))

-- a latency whose column is 1 has no arc
calm_set : {w : List ℕ} {G : Graph} (best : Cycle) {v : ℕ} (t : ℕ) → Listing w G → v < G.nodes → is_set (state_in w v) (t - 1) ≡ true → Calm w G best v t
calm_set {w} {G} best {v} t l here e x a =
    let below = set_below (state_in w v) G.width (t - 1) (l.below v here) e in
    let some = a.permits.positive in
    let free = a.permits.free (omega arith) in
    nowhere (sym (zero_unset (state_in w v) (t - 1) free) ∙ e)

-- the columns from index k on that are 1 are passed over
pub visit_next : {w₀ w : List ℕ} {G : Graph} {best : Cycle} {v t moved : ℕ} (k r : ℕ) → Visiting w₀ w G best v t moved → Listing w₀ G → v < G.nodes
    → t ≡ k + 1 → t ≤ G.width + 2 → r ≡ zero_from (state_in w₀ v) k + 1 → Visiting w₀ w G best v r moved
visit_next {w₀} {w} {G} {best} {v} {t} k r h l here at le e =
    let a = zero_least (state_in w₀ v) k in
    let b = zero_most (state_in w₀ v) G.width k (l.below v here) in
    record {
      frame = h.frame;
      tree = h.tree;
      ready = h.ready;
      some = omega arith;
      upto = omega arith;
      few = omega (arith, h.few);
      calm = λ z.
          let c = h.calm z in (
            c.0,
            λ s q. decide (dec_lt s t) (λ o. c.1 s o)
                (λ o. calm_set best s l here (zero_skips (state_in w₀ v) k (s - 1) (omega arith) (omega arith))),
          );
      grown = h.grown;
    }

-- what the state permits, it permits in the words of now
pub visit_permits : {w₀ w : List ℕ} {G : Graph} {best : Cycle} {v t moved : ℕ} → Visiting w₀ w G best v t moved → v < G.nodes
    → Permits 1 G.width (state_in w₀ v) t → Permits 1 G.width (state_in w v) t
visit_permits {G = G} {v = v} {t} h here p =
    subst (λ (s : ℕ). Permits 1 G.width s t) (sym (h.frame.low v (omega (arith, ready_few h.ready)))) p

pub visit_past : {w₀ w : List ℕ} {G : Graph} {best : Cycle} {v t moved : ℕ} (k r : ℕ) → Visiting w₀ w G best v t moved
    → r ≡ zero_from (state_in w₀ v) k + 1 → k < r
visit_past {w₀} {v = v} k r h e = omega (arith, zero_least (state_in w₀ v) k)

-- sweep

-- the nodes below v are done
pub record Sweeping (w₀ w : List ℕ) (G : Graph) (best : Cycle) (v moved : ℕ) : Type 0 where
  pub frame : Frame w₀ w
  pub tree : Tree w G best
  pub ready : Ready w G best
  pub upto : v ≤ G.nodes
  pub few : moved ≤ 32 * v
  pub calm : moved ≡ 0 → (u : ℕ) → u < v → (t : ℕ) → Calm w G best u t
  pub grown : sum_to (gain w₀) G.nodes + moved ≤ sum_to (gain w) G.nodes

pub sweep_more :
    {w₀ w w' : List ℕ} {G : Graph} {best best' : Cycle} {v moved moved' : ℕ} {found : Bool} → Sweeping w₀ w G best v moved → v < G.nodes
    → Visited w w' G best v found moved' best' → found ≡ false → Sweeping w₀ w' G best (v + 1) (moved + moved')
sweep_more {w₀} {w} {w'} {G} {best} {best'} {v} {moved} {moved'} h lt s no-find =
    record {
      frame = frame_trans h.frame s.frame;
      tree = s.tree no-find;
      ready = s.ready no-find;
      upto = omega arith;
      few = omega (arith, h.few, s.few);
      calm = λ e.
          let z : moved ≡ 0 = omega arith in
          let q : moved' ≡ 0 = omega arith in
          let r = s.still no-find q in
          subst
          (λ (a : List ℕ). (u : ℕ) → u < v + 1 → (t : ℕ) → Calm a G best u t)
          (sym r.0)
          (below_more (λ (u : ℕ). (t : ℕ) → Calm w G best u t) v (h.calm z) r.1);
      grown = omega (arith, h.grown, s.grown no-find);
    }

-- round

pub record Going (w₀ w : List ℕ) (G : Graph) (best : Cycle) : Type 0 where
  pub frame : Frame w₀ w
  pub tree : Tree w G best
  pub ready : Ready w G best

-- no sum of gains is above this
abbrev pub most : ℕ → ℕ → ℕ
most n sum = n * (255 * sum)

gains_most : {w : List ℕ} {G : Graph} {best : Cycle} → Ready w G best → Tree w G best → sum_to (gain w) G.nodes ≤ most G.nodes best.sum
gains_most {w} {G} {best} r tr = sum_below (gain w) G.nodes (255 * best.sum) (tree_gain tr (ready_few r))

pub round_frame : {w w' : List ℕ} {n : ℕ} → Cleared w w' n → Frame w w'
round_frame c = within_frame 768 1280 (omega arith) (omega arith) c.within

pub round_start : {w w' : List ℕ} {G : Graph} {best : Cycle} → Ready w G best → Cleared w w' G.nodes → Going w' w' G best
round_start {w} {w'} {G} {best} r c =
    let few : G.nodes ≤ 256 = ready_few r in
    record {
      frame = frame_refl w';
      tree =
          record {
            arc = λ y l q. absurd (omega (arith, c.parents y l));
            less = λ y l q. absurd (omega (arith, c.parents y l));
            base = λ y l q. c.gains y l;
            deep = λ y l. (0, omega (arith, c.parents y l));
          };
      ready = ready_kept (round_frame c) (λ i l. c.within.above (1536 + i) (omega arith)) r;
    }

pub round_more :
    {w₀ w w' : List ℕ} {G : Graph} {best best' : Cycle} {moved : ℕ} {found : Bool} → Going w₀ w G best → Swept w w' G best found moved best'
    → found ≡ false → Going w₀ w' G best
round_more h s e = record { frame = frame_trans h.frame s.frame; tree = s.tree e; ready = s.ready e }

pub round_less :
    {w w' : List ℕ} {G : Graph} {best best' : Cycle} {moved : ℕ} {found : Bool} → Swept w w' G best found moved best' → found ≡ false
    → (moved ≡ 0 → ⊥) → most G.nodes best.sum - sum_to (gain w') G.nodes < most G.nodes best.sum - sum_to (gain w) G.nodes
round_less s e no_move = omega (arith, s.grown e, gains_most (s.ready e) (s.tree e))

pub round_found :
    {v w₀ w w' : List ℕ} {G : Graph} {best best' : Cycle} {moved : ℕ} {found : Bool} → Frame v w₀ → Going w₀ w G best
    → Swept w w' G best found moved best' → found ≡ true → Rounded v w' G best found best'
round_found f h s e =
    record {
      frame = frame_trans f (frame_trans h.frame s.frame);
      better = s.better;
      ready = s.ready;
      calm = λ n. nowhere (sym n ∙ e);
    }

pub round_end :
    {v w₀ w w' : List ℕ} {G : Graph} {best best' : Cycle} {moved : ℕ} {found : Bool} → Frame v w₀ → Going w₀ w G best
    → Swept w w' G best found moved best' → moved ≡ 0 → Rounded v w' G best found best'
round_end f h s z =
    record {
      frame = frame_trans f (frame_trans h.frame s.frame);
      better = s.better;
      ready = s.ready;
      calm = λ n. s.calm n z;
    }

-- the search

pub search_start : {w w' : List ℕ} {G : Graph} {best : Cycle} → Begun w w' G best → Begun w' w' G best
search_start {w} {w'} h = record { frame = frame_refl w'; ready = h.ready }

pub search_more :
    {w₀ w w' : List ℕ} {G : Graph} {best best' : Cycle} {found : Bool} → Begun w₀ w G best → Rounded w w' G best found best'
    → found ≡ true → Begun w₀ w' G best'
search_more h s e =
    record {
      frame = frame_trans h.frame s.frame;
      ready = record { listing = listing_kept s.frame h.ready.listing; cycle = (s.better e).cycle };
    }

pub search_less :
    {w₀ w w' : List ℕ} {G : Graph} {best best' : Cycle} {found : Bool} → Begun w₀ w G best → Rounded w w' G best found best'
    → found ≡ true → 65536 * best'.sum / best'.count < 65536 * best.sum / best.count
search_less {G = G} {best} {best'} h s e =
    let b = s.better e in
    let few : G.nodes ≤ 256 = ready_few h.ready in
    mean_falls
    best.count
    best.sum
    best'.count
    best'.sum
    h.ready.cycle.some
    b.cycle.some
    (ready_count h.ready)
    (omega (arith, b.cycle.few))
    b.lower

pub search_end :
    {v w₀ w w' : List ℕ} {G : Graph} {first best best' : Cycle} {found : Bool} → Begun v w₀ G first → Begun w₀ w G best
    → Rounded w w' G best found best' → found ≡ false → Least v w' G best
search_end {v} {w₀} {w} {w'} {G} {first} {best} f h s e =
    let g : Frame v w' = frame_trans f.frame (frame_trans h.frame s.frame) in
    let r = s.ready e in
    record {
      frame = g;
      cycle = cycle_kept (frame_back g) (ready_few r) (λ i l. refl) r.cycle;
      floor = floor_kept g (ready_few r) (calm_floor w' G best (s.calm e) r.listing.some);
    }
