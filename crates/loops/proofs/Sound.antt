-- A closed walk of a loop's states never collides. Assumes nothing.
use mathlib.Core.Path.{◌≡◌, sym, ap, ◌∙◌, subst}
use mathlib.Core.Bool.{true, false}
use mathlib.Core.List.{List}
use Prim.Native.Nat.{ℕ, zero, suc, ◌+◌, ◌-◌, ◌*◌, ◌/◌, ◌%◌, ◌≤◌, ◌<◌}
use native.Mathlib.Nat.{le_of_suc-le-suc, not-suc-le-zero, div-add-mod', add-mod-mod, mod-lt}
use native.Mathlib.Decide.{le_ind}
use native.Mathlib.Omega.{arith}
use lib.ListN.{length, get_or}
use Rattle.words.specs.Bits.{is_set}
use Rattle.words.proofs.Tests.{nowhere, or_true_left, or_true_right}
use Rattle.unit.specs.declared.FunctionUnit.{FunctionUnit}
use Rattle.unit.specs.Unit.{marked, sound_of}
use Rattle.unit.proofs.Laws.{Within}
use Rattle.collision.specs.Pipeline.{Collides, latency, start_at}
use Rattle.collision.specs.Vector.{row_word}
use Rattle.collision.proofs.ClashLaws.{clash_collides, start_at_mono}
use Rattle.controller.specs.Bank.{register, empty}
use Rattle.controller.proofs.BankLaws.{started_bit, row_says}
use Rattle.controller.proofs.TickLaws.{granted_bit}
use Rattle.graphs.specs.Graph.{Walk, Reachable}
use Rattle.graphs.proofs.Walks.{state_at, walk_run, walk_permits, cycle_permits, reach_keeps}
use Rattle.loops.specs.Loop.{Loop, Schedule, tag_at, loop_task, LoopNeverCollides}
use Rattle.loops.specs.declared.State.{State}
use Rattle.loops.specs.Steps.{Steps, next_tag, first_state, stepped, loop_graph}
use Rattle.loops.proofs.BankLaws.{stepped_bit}
use Rattle.loops.proofs.StepLaws.{tag_within, four, run_position, position_at, next_at}

-- the bank has the rows of the tag that was started last
abbrev pub Contains : FunctionUnit → List ℕ → State → Type 0
Contains u tags s = (r k : ℕ) → Within r u.functions → is_set (row_word (marked u) r (get_or tags s.position 0)) k ≡ true → is_set (register s.bank r) k ≡ true

module _ (u : FunctionUnit) (tags : List ℕ) (sound : sound_of u ≡ true) (loop : Loop u tags) where
  contains_first : Contains u tags (first_state u tags)
  contains_first r k w b =
      started_bit u (get_or tags 0 0) empty r k w.least (omega (arith, w.most, four u sound)) w.most
      ∙ or_true_right (is_set (register empty r) (1 + k)) _ b

  contains_step : (s : State) (t : ℕ) → Steps tags s t → Contains u tags (stepped u tags s t)
  contains_step s t p r k w b =
      stepped_bit u (next_tag tags s) s.bank t r k p.least w.least (omega (arith, w.most, four u sound)) w.most
      ∙ or_true_right (is_set (register s.bank r) (t + k)) _ b

  pub contains_reached : (s : State) → Reachable (loop_graph u tags) s → Contains u tags s
  contains_reached s r = reach_keeps (loop_graph u tags) (Contains u tags) contains_first (λ s t c p. contains_step s t p) r

  -- latencies that the states from s on permit
  module _ (s : State) (l : List ℕ) (start : s.position ≡ 0) (first : Contains u tags s)
      (permits : (j : ℕ) → Steps tags (state_at (loop_graph u tags) s l j) (latency l j)) where
    at : ℕ → State
    at j = state_at (loop_graph u tags) s l j

    contains_at : (j : ℕ) → Contains u tags (at j)
    unfolding at
    contains_at zero = first
    contains_at (suc j) = contains_step (at j) (latency l j) (permits j)

    -- the state at the j-th start has, for each start so far, the rows of its tag shifted by the time since
    remembers : (i j : ℕ) → i ≤ j → (r k d : ℕ) → Within r u.functions → start_at l i + d ≡ start_at l j + k
        → is_set (row_word (marked u) r (tag_at tags i)) d ≡ true → is_set (register (at j).bank r) k ≡ true
    unfolding at
    remembers i j h =
        le_ind (λ (m : ℕ). (r k d : ℕ) → Within r u.functions → start_at l i + d ≡ start_at l m + k
        → is_set (row_word (marked u) r (tag_at tags i)) d ≡ true → is_set (register (at m).bank r) k ≡ true)
        (λ r k d w e b.
        let same : d ≡ k = omega arith in
        let tag : get_or tags (at i).position 0 ≡ tag_at tags i = ap (λ p. get_or tags p 0) (position_at u tags s l start i) in
        let b2 : is_set (row_word (marked u) r (get_or tags (at i).position 0)) k ≡ true = ap (λ q. is_set (row_word (marked u) r q) k) tag ∙ ap (is_set (row_word (marked u) r (tag_at tags i))) (sym same) ∙ b in
        contains_at i r k w b2)
        (λ m o ih r k d w e b.
        stepped_bit u (next_tag tags (at m)) (at m).bank (latency l m) r k (permits m).least w.least (omega (arith, w.most, four u sound)) w.most
        ∙ or_true_left (is_set (register (at m).bank r) (latency l m + k)) _ (ih r (latency l m + k) d w (omega arith) b))
        j h

    pub permitted_never : LoopNeverCollides (marked u) tags l
    unfolding at
    permitted_never i zero h c = not-suc-le-zero h
    permitted_never i (suc j) h c =
        let t : ℕ = latency l j in
        let d : ℕ = start_at l (suc j) - start_at l i in
        let le : start_at l i ≤ start_at l j = start_at_mono l i j (le_of_suc-le-suc h) in
        let pos : 1 ≤ t = (permits j).least in
        let e : start_at l (suc j) ≡ start_at l i + d = omega arith in
        let k : Collides (marked u) (tag_at tags (suc j)) (tag_at tags i) d = (clash_collides (marked u) (loop_task tags l i) (loop_task tags l (suc j)) d e).0 c in
        let one : d - 1 + 1 ≡ d = omega arith in
        let bit : is_set (row_word (marked u) (tag_at tags (suc j)) (tag_at tags i)) (d - 1) ≡ true =
        (row_says u (tag_at tags (suc j)) (tag_at tags i) (d - 1)).1 (subst (Collides (marked u) (tag_at tags (suc j)) (tag_at tags i)) (sym one) k) in
        let held : is_set (register (at j).bank (tag_at tags (suc j))) (t - 1) ≡ true =
        remembers i j (le_of_suc-le-suc h) (tag_at tags (suc j)) (t - 1) (d - 1) (tag_within u tags loop (suc j)) (omega arith) bit in
        let free : is_set (register (at j).bank (next_tag tags (at j))) (t - 1) ≡ false = granted_bit (at j).bank t (next_tag tags (at j)) (permits j).granted in
        nowhere (sym free ∙ ap (λ q. is_set (register (at j).bank q) (t - 1)) (next_at u tags s l start j) ∙ held)

  -- (sound) a closed walk from a reachable state of position 0, repeated without end, never collides
  pub sound_loop : (s : State) (l : List ℕ) → Reachable (loop_graph u tags) s → s.position ≡ 0 → Walk (loop_graph u tags) s l s → 0 < length l
      → LoopNeverCollides (marked u) tags l
  sound_loop s l r start w h = permitted_never s l start (contains_reached s r) (cycle_permits (loop_graph u tags) w h)

  -- a closed walk has a whole number of turns of the list
  pub closed_whole : (s : State) (l : List ℕ) → s.position < length tags → Walk (loop_graph u tags) s l s → length l % length tags ≡ 0
  closed_whole s l h w =
      let n : ℕ = length tags in
      let p : ℕ = s.position in
      let m : ℕ = length l % n in
      let b : m < n = mod-lt (length l) loop.some in
      let e : (p + m) % n ≡ p =
      add-mod-mod p (length l) n ∙ sym (run_position u tags loop.some s h l) ∙ ap (λ (x : State). x.position) (walk_run (loop_graph u tags) w) in
      let q : (p + m) / n * n + (p + m) % n ≡ p + m = div-add-mod' (p + m) n in
      turns ((p + m) / n) n m p b h (omega arith)
    where
      turns : (c n m p : ℕ) → m < n → p < n → c * n + p ≡ p + m → m ≡ 0
      turns zero n m p b h e = omega arith
      turns (suc c) n m p b h e = absurd (omega arith)

  pub closed_schedule : (s : State) (l : List ℕ) → s.position < length tags → Walk (loop_graph u tags) s l s → 0 < length l → Schedule tags l
  closed_schedule s l h w some = record {
    latencies = record { nonempty = some; each = λ i k. (walk_permits (loop_graph u tags) w i k).least };
    turns = length l / length tags;
    whole = omega (arith, closed_whole s l h w, div-add-mod' (length l) (length tags));
  }
