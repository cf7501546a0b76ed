-- A potential of the states bounds the latencies of every walk, and so of every cycle that never collides. Assumes nothing.
--
-- A potential gives each listed state a height such that an arc of latency t climbs at most K × t - S. The climbs of a walk add up to the
-- difference of the heights at its ends, so that S for each of its latencies is at most K times their sum, but for the height of its start.
use mathlib.Core.Path.{◌≡◌, sym, subst, ◌∙◌}
use mathlib.Core.Bool.{Bool, true, cond, not, ◌&&◌}
use mathlib.Core.List.{List, [], ◌∷◌}
use Prim.Native.Nat.{ℕ, zero, suc, ◌+◌, ◌*◌, ◌≤◌}
use native.Mathlib.Nat.{mul-suc, mul-add, mul-zero, not-suc-le-zero}
use native.Mathlib.Omega.{arith}
use lib.Dec.{ltb, eqb}
use lib.ListN.{length, get_or}
use borrow.Author.Tests.{ltb-false, not-true}
use Rattle.words.specs.Below.{some_below}
use Rattle.words.proofs.Tests.{nowhere, and_true, not_passed, T_true}
use Rattle.words.proofs.BelowLaws.{some_intro}
use Rattle.collision.specs.Pipeline.{total}
use Rattle.diagram.specs.Diagram.{next, longest, Permits, Walk, stay, step}
use Rattle.diagram.specs.States.{Listed, Each, arc, states}
use Rattle.diagram.proofs.Listing.{Closed, permits_arc, states_first, states_closed}
use Rattle.mean_cycle.specs.Mean.{Floor}
use Rattle.papers.proofs.TestLaws.{all, all_at}

-- each arc from a state of the list climbs at most what its latency allows
abbrev pub Potential : ℕ → ℕ → ℕ → List ℕ → ℕ → ℕ → (ℕ → ℕ) → Type 0
Potential g n cv m S K φ = Each (λ s. (t : ℕ) → Permits g n s t → S + φ (next cv s t) ≤ K * t + φ s) m

module _ (g n cv : ℕ) (m : List ℕ) (closed : Closed g n cv m) (S K : ℕ) (φ : ℕ → ℕ) (pot : Potential g n cv m S K φ) where
  walk_bound : {s e : ℕ} {l : List ℕ} → Walk g n cv s l e → Listed s m → S * length l + φ e ≤ K * total l + φ s
  walk_bound stay p = rw (mul-zero S, mul-zero K) (omega arith)
  walk_bound (step {s = s} {t = t} {l = l} q w) p =
      rw (mul-suc S (length l), mul-add K t (total l))
      (omega (
        arith,
        walk_bound w (subst (λ (x : ℕ). Listed (next cv x t) m) p.found (closed p.index p.inside t (rw p.found q))),
        rw p.found at (pot p.index p.inside t (rw p.found q)),
      ))

-- no walk has a lower average than S / K, where a potential on all states says so
pub potential_floor : (g n cv cap : ℕ) → length (states cap g n cv) ≤ cap → (S K : ℕ) (φ : ℕ → ℕ)
    → Potential g n cv (states cap g n cv) S K φ → Floor g n cv K S
potential_floor g n cv cap h S K φ pot = record {
  bound = φ cv;
  every = λ l e w. omega (arith, walk_bound g n cv (states cap g n cv) (states_closed g n cv cap h) S K φ pot w (states_first g n cv cap));
}

-- The test

module _ (g n cv S K : ℕ) (φ : ℕ → ℕ) where
  -- the arc of the state s for t climbs more than its latency allows
  abbrev climbs : ℕ → ℕ → Bool
  climbs s t = arc g n s t && ltb (K * t + φ s) (S + φ (next cv s t))

  abbrev some_climbs : ℕ → Bool
  some_climbs s = some_below (longest g n) (λ k. climbs s (suc k))

  unfoldable pub is_potential : List ℕ → Bool
  unfolding some_below
  is_potential m = all (λ s. not (some_climbs s)) m

  pub potential_tested : (m : List ℕ) → is_potential m ≡ true → Potential g n cv m S K φ
  unfolding is_potential
  potential_tested m b i h zero p = absurd (not-suc-le-zero p.positive)
  potential_tested m b i h (suc k) p =
      let s = get_or m i 0 in
      let none = not-true (some_climbs s) (all_at (λ x. not (some_climbs x)) m 0 b i h) in
      ltb-false (K * suc k + φ s) (S + φ (next cv s (suc k)))
      (not_passed (ltb (K * suc k + φ s) (S + φ (next cv s (suc k))))
      (λ more.
      let arc-there = T_true (arc g n s (suc k)) (permits_arc g n s (suc k) p) in
      nowhere (sym none ∙ some_intro (longest g n) (λ j. climbs s (suc j)) k p.small (and_true arc-there more))))

-- Heights

-- heights by a list of states with their heights; 0 for a state that it does not have
abbrev pub height : List (ℕ × ℕ) → ℕ → ℕ
height [] s = 0
height ((x, h) ∷ l) s = cond (eqb x s) h (height l s)
