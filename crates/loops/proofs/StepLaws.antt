-- Steps of a loop: positions, the tags that follow each other, and latencies longer than n + 1. Assumes nothing.
use mathlib.Core.Path.{◌≡◌, sym, ap, ◌∙◌, subst}
use mathlib.Core.Bool.{true}
use mathlib.Core.List.{List, [], ◌∷◌}
use Prim.Native.Nat.{ℕ, zero, suc, ◌+◌, ◌-◌, ◌%◌, ◌≤◌, ◌<◌, min}
use native.Mathlib.Nat.{add-zero, mod-lt, mod-eq_of_lt, mod-add-mod, zero-mod, min-eq_left}
use native.Mathlib.Decide.{dec_le}
use native.Mathlib.Omega.{arith}
use lib.ListN.{length, get_or}
use Rattle.words.proofs.BitLaws.{bit_above, zero_unset}
use Rattle.unit.specs.declared.FunctionUnit.{FunctionUnit}
use Rattle.unit.specs.Unit.{marked, inside, sound_of}
use Rattle.unit.proofs.Laws.{Within, within, sound_has}
use Rattle.collision.specs.Vector.{largest_column}
use Rattle.controller.specs.Bank.{register, empty, ticked, started}
use Rattle.controller.proofs.TickLaws.{Below, ticked_below, started_below, empty_below, register_below, bit_granted}
use Rattle.graphs.specs.Graph.{Reachable}
use Rattle.graphs.proofs.Walks.{run, state_at, reach_keeps}
use Rattle.loops.specs.Loop.{Loop, tag_at}
use Rattle.loops.specs.declared.State.{State}
use Rattle.loops.specs.Steps.{Steps, ShortStep, following, next_tag, first_state, stepped, loop_graph, arc_graph}
use Rattle.loops.proofs.BankLaws.{ticked_empty}

-- Tags

module _ (u : FunctionUnit) (tags : List ℕ) (loop : Loop u tags) where
  pub tag_inside : (i : ℕ) → inside (tag_at tags i) u.functions ≡ true
  tag_inside i = loop.tag (i % length tags) (mod-lt i loop.some)

  pub tag_within : (i : ℕ) → Within (tag_at tags i) u.functions
  tag_within i = within (tag_at tags i) u.functions (tag_inside i)

  pub next_within : (s : State) → Within (next_tag tags s) u.functions
  next_within s = tag_within (s.position + 1)

  pub first_within : Within (get_or tags 0 0) u.functions
  first_within = within (get_or tags 0 0) u.functions (loop.tag 0 loop.some)

pub four : (u : FunctionUnit) → sound_of u ≡ true → u.functions ≤ 4
four u sound = (within u.functions 4 (sound_has u sound).functions).most

-- Positions

pub run_position : (u : FunctionUnit) (tags : List ℕ) → 1 ≤ length tags → (s : State) → s.position < length tags → (l : List ℕ)
    → (run (loop_graph u tags) s l).position ≡ (s.position + length l) % length tags
run_position u tags some s h [] = sym (ap (λ n. n % length tags) (add-zero s.position) ∙ mod-eq_of_lt h)
run_position u tags some s h (t ∷ l) =
    let e : s.position + 1 + length l ≡ s.position + suc (length l) = omega arith in
    run_position u tags some (stepped u tags s t) (mod-lt (s.position + 1) some) l
    ∙ mod-add-mod (s.position + 1) (length tags) (length l) ∙ ap (λ n. n % length tags) e

module _ (u : FunctionUnit) (tags : List ℕ) (s : State) (l : List ℕ) (start : s.position ≡ 0) where
  pub position_at : (j : ℕ) → (state_at (loop_graph u tags) s l j).position ≡ j % length tags
  position_at zero = start ∙ sym (zero-mod (length tags))
  position_at (suc j) =
      let e : j + 1 ≡ suc j = omega arith in
      ap (λ p. (p + 1) % length tags) (position_at j) ∙ mod-add-mod j (length tags) 1 ∙ ap (λ n. n % length tags) e

  -- the tag that follows the j-th task is that of the next
  pub next_at : (j : ℕ) → next_tag tags (state_at (loop_graph u tags) s l j) ≡ tag_at tags (suc j)
  next_at j = ap (λ p. get_or tags p 0) (position_at (suc j))

-- Latencies longer than n + 1

-- the position is one of the list, and no register has a bit from n on
pub record Kept (u : FunctionUnit) (tags : List ℕ) (s : State) : Type 0 where
  pub place : s.position < length tags
  pub below : Below (largest_column (marked u)) s.bank

module _ (u : FunctionUnit) (tags : List ℕ) (sound : sound_of u ≡ true) (loop : Loop u tags) where
  pub kept_first : Kept u tags (first_state u tags)
  kept_first = record {
    place = loop.some;
    below = started_below u (get_or tags 0 0) empty (omega (arith, first_within u tags loop, four u sound)) (empty_below (largest_column (marked u)));
  }

  pub kept_step : (s : State) (t : ℕ) → Kept u tags s → Kept u tags (stepped u tags s t)
  kept_step s t k = record {
    place = mod-lt (s.position + 1) loop.some;
    below =
        started_below u (next_tag tags s) (ticked (t - 1) s.bank) (omega (arith, next_within u tags loop s, four u sound))
        (ticked_below (largest_column (marked u)) (t - 1) s.bank k.below);
  }

  pub kept_reached : (s : State) → Reachable (loop_graph u tags) s → Kept u tags s
  kept_reached s r = reach_keeps (loop_graph u tags) (Kept u tags) kept_first (λ s t k p. kept_step s t k) r

  pub kept_arcs : (s : State) → Reachable (arc_graph u tags) s → Kept u tags s
  kept_arcs s r = reach_keeps (arc_graph u tags) (Kept u tags) kept_first (λ s t k p. kept_step s t k) r

  -- a latency above n is always granted, and all such lead to one state
  pub far_granted : (s : State) (t : ℕ) → Kept u tags s → largest_column (marked u) + 1 ≤ t → Steps tags s t
  far_granted s t k h = record {
    least = omega arith;
    granted =
        bit_granted s.bank t (next_tag tags s)
        (zero_unset _ (t - 1) (bit_above (register s.bank (next_tag tags s)) (largest_column (marked u)) (t - 1) (register_below (largest_column (marked u)) s.bank (next_tag tags s) k.below) (omega arith)));
  }

  pub step_far : (s : State) (t t' : ℕ) → Kept u tags s → largest_column (marked u) + 1 ≤ t → largest_column (marked u) + 1 ≤ t'
      → stepped u tags s t ≡ stepped u tags s t'
  step_far s t t' k h h' =
      let e : ticked (t - 1) s.bank ≡ ticked (t' - 1) s.bank =
      ticked_empty (largest_column (marked u)) (t - 1) s.bank k.below (omega arith)
      ∙ sym (ticked_empty (largest_column (marked u)) (t' - 1) s.bank k.below (omega arith)) in
      λ i. record { position = following tags s; bank = started u (next_tag tags s) (e i) }

  -- the same step, cut to n + 1
  pub step_cut : (s : State) (t : ℕ) → Kept u tags s → stepped u tags s (min t (largest_column (marked u) + 1)) ≡ stepped u tags s t
  step_cut s t k = pick (dec_le t (largest_column (marked u) + 1))
    where
      pick : Dec (t ≤ largest_column (marked u) + 1) → stepped u tags s (min t (largest_column (marked u) + 1)) ≡ stepped u tags s t
      pick (yes h) = ap (stepped u tags s) (min-eq_left h)
      pick (no h) = step_far s (min t (largest_column (marked u) + 1)) t k (omega arith) (omega arith)

  pub permits_cut : (s : State) (t : ℕ) → Kept u tags s → Steps tags s t → ShortStep (largest_column (marked u)) tags s (min t (largest_column (marked u) + 1))
  permits_cut s t k p = record { step = pick (dec_le t (largest_column (marked u) + 1)); most = omega arith }
    where
      pick : Dec (t ≤ largest_column (marked u) + 1) → Steps tags s (min t (largest_column (marked u) + 1))
      pick (yes h) = subst (Steps tags s) (sym (min-eq_left h)) p
      pick (no h) = far_granted s (min t (largest_column (marked u) + 1)) k (omega arith)
