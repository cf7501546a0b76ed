-- Latencies of a loop that never collide are a walk of its states, where those too long are cut; so a bound on walks is one on all rivals.
-- Assumes nothing.
use mathlib.Core.Path.{◌≡◌, refl, sym, ap, ◌∙◌}
use mathlib.Core.Bool.{Bool, true, false, ◌||◌}
use mathlib.Core.List.{List}
use Prim.Native.Nat.{ℕ, zero, suc, ◌+◌, ◌-◌, ◌*◌, ◌%◌, ◌≤◌, min, zero-le}
use native.Mathlib.Nat.{le_refl, le_step, add-zero, zero-add, zero-mod, mod-lt}
use native.Mathlib.Omega.{arith}
use lib.ListN.{length, get_or}
use Rattle.words.specs.Bits.{is_set}
use Rattle.words.proofs.Tests.{not_passed}
use Rattle.unit.specs.declared.FunctionUnit.{FunctionUnit}
use Rattle.unit.specs.Unit.{marked, sound_of}
use Rattle.unit.proofs.Laws.{Within}
use Rattle.collision.specs.Pipeline.{Cycle, total, latency, start_at}
use Rattle.collision.specs.Vector.{row_word, largest_column}
use Rattle.collision.proofs.ClashLaws.{clash_collides}
use Rattle.controller.specs.Bank.{register, empty}
use Rattle.controller.proofs.BankLaws.{empty_bit, started_bit, row_says}
use Rattle.controller.proofs.TickLaws.{bit_granted}
use Rattle.graphs.specs.Graph.{Walk, stay, step}
use Rattle.graphs.proofs.Walks.{state_at}
use Rattle.graphs.proofs.Rivals.{cuts, rival_bound}
use Rattle.loops.specs.Loop.{Loop, Schedule, tag_at, loop_task, LoopNeverCollides}
use Rattle.loops.specs.declared.State.{State}
use Rattle.loops.specs.Steps.{Steps, next_tag, first_state, stepped, loop_graph, arc_graph}
use Rattle.loops.proofs.BankLaws.{stepped_bit}
use Rattle.loops.proofs.StepLaws.{Kept, tag_within, four, next_at, kept_first, kept_step, step_cut, permits_cut}

neither : (a b : Bool) → a ≡ false → b ≡ false → a || b ≡ false
neither a b p q = rw (p, q)

module _ (u : FunctionUnit) (tags : List ℕ) (sound : sound_of u ≡ true) (loop : Loop u tags) (l : List ℕ) (c : Cycle 1 l) where
  -- the state before the j-th latency, from the first state on
  abbrev at : ℕ → State
  at j = state_at (loop_graph u tags) (first_state u tags) l j

  positive : (j : ℕ) → 1 ≤ latency l j
  positive j = c.each (j % length l) (mod-lt j c.nonempty)

  -- a bit of a state is clear where no start so far sets it
  clear : (j r k : ℕ) → Within r u.functions
      → ((i : ℕ) → i ≤ j → (d : ℕ) → start_at l i + d ≡ start_at l j + k → is_set (row_word (marked u) r (tag_at tags i)) d ≡ false)
      → is_set (register (at j).bank r) k ≡ false
  clear zero r k w f =
      let tag : get_or tags 0 0 ≡ tag_at tags 0 = ap (λ p. get_or tags p 0) (sym (zero-mod (length tags))) in
      started_bit u (get_or tags 0 0) empty r k w.least (omega (arith, w.most, four u sound)) w.most
      ∙ neither _ _ (empty_bit r (1 + k)) (ap (λ q. is_set (row_word (marked u) r q) k) tag ∙ f 0 zero-le k refl)
  clear (suc j) r k w f =
      stepped_bit u (next_tag tags (at j)) (at j).bank (latency l j) r k (positive j) w.least (omega (arith, w.most, four u sound)) w.most
      ∙ neither _ _ (clear j r (latency l j + k) w (λ i h d e. f i (le_step h) d (omega arith)))
      (ap (λ q. is_set (row_word (marked u) r q) k) (next_at u tags (first_state u tags) l refl j) ∙ f (suc j) (le_refl (suc j)) k refl)

  module _ (never : LoopNeverCollides (marked u) tags l) where
    -- every latency is granted
    pub rival_steps : (j : ℕ) → Steps tags (at j) (latency l j)
    rival_steps j = record {
      least = positive j;
      granted =
          bit_granted (at j).bank (latency l j) (next_tag tags (at j))
          (ap (λ q. is_set (register (at j).bank q) (latency l j - 1)) (next_at u tags (first_state u tags) l refl j)
          ∙ clear j (tag_at tags (suc j)) (latency l j - 1) (tag_within u tags loop (suc j)) off);
    }
      where
        off : (i : ℕ) → i ≤ j → (d : ℕ) → start_at l i + d ≡ start_at l j + (latency l j - 1)
            → is_set (row_word (marked u) (tag_at tags (suc j)) (tag_at tags i)) d ≡ false
        off i h d e = not_passed _ (λ b.
            let pos = positive j in
            let s : start_at l (suc j) ≡ start_at l i + (d + 1) = omega arith in
            never i (suc j) (omega arith)
            ((clash_collides (marked u) (loop_task tags l i) (loop_task tags l (suc j)) (d + 1) s).1
            ((row_says u (tag_at tags (suc j)) (tag_at tags i) d).0 b)))

    kept_at : (j : ℕ) → Kept u tags (at j)
    kept_at zero = kept_first u tags sound loop
    kept_at (suc j) = kept_step u tags sound loop (at j) (latency l j) (kept_at j)

    complete_at : (i r : ℕ) → Walk (arc_graph u tags) (at i) (cuts (largest_column (marked u) + 1) l i r) (at (i + r))
    complete_at i zero = rw add-zero stay
    complete_at i (suc r) =
        let shift : i + suc r ≡ suc i + r = omega arith in
        let rest : Walk (arc_graph u tags) (stepped u tags (at i) (min (latency l i) (largest_column (marked u) + 1))) (cuts (largest_column (marked u) + 1) l (suc i) r) (at (i + suc r)) =
        rw (step_cut u tags sound loop (at i) (latency l i) (kept_at i), shift) (complete_at (suc i) r) in
        step (permits_cut u tags sound loop (at i) (latency l i) (kept_at i) (rival_steps i)) rest

    -- (complete) the latencies, as many as are wanted, each cut to n + 1, are a walk from the first state
    pub complete_loop : (r : ℕ) → Walk (arc_graph u tags) (first_state u tags) (cuts (largest_column (marked u) + 1) l 0 r) (at r)
    complete_loop r = rw zero-add at (complete_at 0 r)

-- (rival) the average of every rival that never collides is at least S / K, if that of every walk from the first state is, up to a constant
pub rival_loop : (u : FunctionUnit) (tags : List ℕ) → sound_of u ≡ true → Loop u tags
    → (S K E : ℕ) → ((l : List ℕ) (s : State) → Walk (arc_graph u tags) (first_state u tags) l s → S * length l ≤ K * total l + E)
    → (rival : List ℕ) → Schedule tags rival → LoopNeverCollides (marked u) tags rival → S * length rival ≤ K * total rival
rival_loop u tags sound loop S K E walks rival s never =
    rival_bound (largest_column (marked u) + 1) S K E rival
    (λ r. walks (cuts (largest_column (marked u) + 1) rival 0 r) _ (complete_loop u tags sound loop rival s.latencies never r))
