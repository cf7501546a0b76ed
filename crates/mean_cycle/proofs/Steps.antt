-- What one arc leaves, in each of its three ways. Assumes nothing.
use mathlib.Core.Path.{◌≡◌, refl, sym, subst, ◌∙◌}
use mathlib.Core.Bool.{Bool, true, false}
use mathlib.Core.List.{List}
use Prim.Native.Nat.{ℕ, ◌+◌, ◌*◌, ◌-◌, ◌≤◌, ◌<◌}
use native.Mathlib.Numerals.{add-one}
use native.Mathlib.Omega.{arith}
use Rattle.words.proofs.Tests.{nowhere}
use Rattle.mean_cycle.specs.declared.Cycle.{Cycle}
use Rattle.mean_cycle.specs.declared.search.Graph.{Graph}
use Rattle.mean_cycle.specs.Nodes.{Arc}
use Rattle.mean_cycle.specs.Inner.{Listing, Path, Off, Tree, Calm, Ready, Ends, Better, Traced, Stepped, gain, parent}
use Rattle.mean_cycle.proofs.Frames.{frame_refl, within_frame, ready_kept, ready_few, ready_sum, tree_gain}
use Rattle.mean_cycle.proofs.Targets.{arc_same}
use Rattle.mean_cycle.proofs.Closing.{closing_better}
use Rattle.mean_cycle.proofs.Relinks.{Relinked, linked, relinked, tree_kept, gains_grown}

-- a new gain fits a word
pub gain_fits : {w : List ℕ} {G : Graph} {best : Cycle} {v : ℕ} → Ready w G best → Tree w G best → v < G.nodes → gain w v + best.sum < 4294967296
gain_fits {v = v} r tr l = omega (arith, tree_gain tr (ready_few r) v l, ready_sum r)

-- the arc asks no greater gain
pub calm_arc : {w : List ℕ} {G : Graph} (best : Cycle) {v t r : ℕ} → Listing w G → Arc w G v t r → gain w v + best.sum ≤ gain w r + best.count * t
    → Calm w G best v t
calm_arc {w} best {v} {t} h b l x a = subst (λ (z : ℕ). gain w v + best.sum ≤ gain w z + best.count * t) (sym (arc_same h a b)) l

pub stepped_still :
    {w : List ℕ} {G : Graph} {best best' : Cycle} {v t moved : ℕ} {found : Bool} → Ready w G best → Tree w G best → Calm w G best v t
    → found ≡ false → moved ≡ 0 → Stepped w w G best v t found moved best'
stepped_still {w} r tr calm f m =
    record {
      frame = frame_refl w;
      better = λ e. nowhere (sym f ∙ e);
      tree = λ e. tr;
      ready = λ e. r;
      one = omega arith;
      still = λ e. (refl, calm);
      grown = λ e. omega arith;
    }

pub stepped_found :
    (w w' : List ℕ) (G : Graph) (best : Cycle) (v t x k r : ℕ) → G.nodes ≤ 256 → Tree w G best → Arc w G v t x → Path (parent w) G.nodes k v x
    → Ends w G.nodes v → Traced w w' v t k r → gain w x + best.count * t < gain w v + best.sum
    → Stepped w w' G best v t true 1 (record { count = k + 1; sum = r; start = x })
stepped_found w w' G best v t x k r few tr a path d traced lt =
    record {
      frame = within_frame 1536 1792 (omega arith) (omega arith) traced.within;
      better = λ e.
          subst
          (λ (z : ℕ). Better w' G best (record { count = z; sum = r; start = x }))
          (sym (add-one k))
          (closing_better w w' G best v t x k r few tr a path d traced lt);
      tree = λ e. nowhere (sym e);
      ready = λ e. nowhere (sym e);
      one = omega arith;
      still = λ e. absurd (omega arith);
      grown = λ e. nowhere (sym e);
    }

pub stepped_moved :
    (w w' : List ℕ) (G : Graph) (best best' : Cycle) (v t x : ℕ) → Ready w G best → Tree w G best → Arc w G v t x
    → ((d : ℕ) × Off (parent w) G.nodes d v x) → w' ≡ linked w x v t (gain w v + best.sum - best.count * t)
    → gain w x + best.count * t < gain w v + best.sum → Stepped w w' G best v t false 1 best'
stepped_moved w w' G best best' v t x r tr a off e lt =
    let g : ℕ = gain w v + best.sum - best.count * t in
    let eq : g + best.count * t ≡ gain w v + best.sum = omega arith in
    let more : gain w x < g = omega arith in
    let few : G.nodes ≤ 256 = ready_few r in
    subst
    (λ (z : List ℕ). Stepped w z G best v t false 1 best')
    (sym e)
    (let re : Relinked w (linked w x v t g) G.nodes x v t g = relinked w x v t g G.nodes few a.enters r.listing.room in
    record {
      frame = re.frame;
      better = λ q. nowhere q;
      tree = λ q. tree_kept w (linked w x v t g) G best v t x g few tr a off.0 off.1 re eq more;
      ready = λ q. ready_kept re.frame (λ i l. re.cycle i) r;
      one = omega arith;
      still = λ q. absurd (omega arith);
      grown = λ q. gains_grown w (linked w x v t g) G best v t x g few tr a off.0 off.1 re eq more;
    })
