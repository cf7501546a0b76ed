-- From a cycle of the arcs and a bound on the walks from the first state to the best latencies of a loop. Assumes nothing.
use mathlib.Core.Path.{◌≡◌, ap, ◌∙◌}
use mathlib.Core.Bool.{true}
use mathlib.Core.List.{List}
use Prim.Native.Nat.{ℕ, ◌+◌, ◌-◌, ◌*◌, ◌%◌, ◌≤◌, ◌<◌}
use native.Mathlib.Nat.{mod-lt, mod_self, mod-eq_of_lt, add-mod-mod, mul_comm}
use native.Mathlib.Decide.{dec_lt}
use native.Mathlib.Omega.{arith}
use lib.ListN.{length, take, length-take}
use Rattle.unit.specs.declared.FunctionUnit.{FunctionUnit}
use Rattle.unit.specs.Unit.{sound_of}
use Rattle.collision.specs.Pipeline.{total}
use Rattle.graphs.specs.Graph.{Walk, CycleAt}
use Rattle.graphs.proofs.Walks.{run}
use Rattle.graphs.specs.Rotation.{rotate}
use Rattle.graphs.proofs.Rotations.{rotate_length, rotate_total, rotate_cycle}
use Rattle.loops.specs.Loop.{Loop}
use Rattle.loops.specs.declared.State.{State}
use Rattle.loops.specs.Steps.{first_state, loop_graph, arc_graph}
use Rattle.loops.specs.Best.{BestLoop}
use Rattle.loops.proofs.StepLaws.{run_position, kept_arcs}
use Rattle.loops.proofs.Sound.{sound_loop, closed_whole, closed_schedule}
use Rattle.loops.proofs.Complete.{rival_loop}
use Rattle.loops.proofs.StateLaws.{cycle_steps}

-- how many latencies a cycle through s is turned by, so that it begins at position 0
abbrev pub to_start : List ℕ → State → ℕ
to_start tags s = (length tags - s.position) % length tags

module _ (u : FunctionUnit) (tags : List ℕ) (sound : sound_of u ≡ true) (loop : Loop u tags) where
  start_reached : (p n : ℕ) → p < n → (p + (n - p) % n) % n ≡ 0
  start_reached p n h =
      let e : p + (n - p) ≡ n = omega arith in
      add-mod-mod p (n - p) n ∙ ap (λ x. x % n) e ∙ mod_self n

  whole_least : (k n : ℕ) → 0 < k → k % n ≡ 0 → n ≤ k
  whole_least k n h e = go (dec_lt k n)
    where
      go : Dec (k < n) → n ≤ k
      go (yes l) = absurd (omega (arith, mod-eq_of_lt l))
      go (no l) = omega arith

  module _ (s : State) (l : List ℕ) (c : CycleAt (arc_graph u tags) s l) (some : 0 < length l) where
    place : s.position < length tags
    place = (kept_arcs u tags sound loop s c.reached).place

    turn_low : to_start tags s ≤ length l
    turn_low =
        let w = cycle_steps u tags s l c in
        omega (
          arith,
          mod-lt (length tags - s.position) loop.some,
          whole_least (length l) (length tags) some (closed_whole u tags sound loop s l place w.closed),
        )

    turned : List ℕ
    turned = rotate l (to_start tags s)

    begin : State
    begin = run (loop_graph u tags) s (take (to_start tags s) l)

    begin_position : begin.position ≡ 0
    unfolding begin
    begin_position =
        let n : length (take (to_start tags s) l) ≡ to_start tags s = omega (arith, length-take (to_start tags s) l, turn_low) in
        run_position u tags loop.some s place (take (to_start tags s) l)
        ∙ ap (λ m. (s.position + m) % length tags) n ∙ start_reached s.position (length tags) place

    -- a cycle of least average of the arcs, from position 0 on, is the best
    pub best_loop : (E : ℕ) → ((w : List ℕ) (e : State) → Walk (arc_graph u tags) (first_state u tags) w e → total l * length w ≤ length l * total w + E)
        → BestLoop u tags (rotate l (to_start tags s))
    unfolding begin
    best_loop E floor =
        let k : CycleAt (loop_graph u tags) begin (rotate l (to_start tags s)) = rotate_cycle (loop_graph u tags) s l (to_start tags s) turn_low (cycle_steps u tags s l c) in
        let n : length (rotate l (to_start tags s)) ≡ length l = rotate_length l (to_start tags s) in
        let t : total (rotate l (to_start tags s)) ≡ total l = rotate_total l (to_start tags s) in
        let more : 0 < length (rotate l (to_start tags s)) = omega arith in
        let zero-place : begin.position < length tags = omega (arith, begin_position, loop.some) in
        record {
          schedule = closed_schedule u tags sound loop begin (rotate l (to_start tags s)) zero-place k.closed more;
          state = begin;
          start = begin_position;
          cycle = k;
          never = sound_loop u tags sound loop begin (rotate l (to_start tags s)) k.reached begin_position k.closed more;
          least = λ rival p never.
              rw (t, n) (omega (arith, rival_loop u tags sound loop (total l) (length l) E floor rival p never, mul_comm (length l) (total rival)));
        }
