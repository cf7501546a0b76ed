-- The listed states as nodes of a graph with a table of arcs: its cycles are cycles of the loop's states, and its walks are theirs. Assumes nothing.
use mathlib.Core.Path.{◌≡◌, refl, sym, ap, ◌∙◌, subst}
use mathlib.Core.Bool.{Bool, true, false, not}
use mathlib.Core.List.{List, [], ◌∷◌}
use Prim.Native.Nat.{ℕ, zero, suc, ◌+◌, ◌-◌, ◌*◌, ◌/◌, ◌%◌, ◌^◌, ◌≤◌, ◌<◌}
use native.Mathlib.Nat.{mod-lt, not-suc-le-zero, le_of_suc-le-suc}
use native.Mathlib.Decide.{dec_le}
use native.Mathlib.Omega.{arith}
use lib.Bits.{bit_or}
use lib.ListN.{length, get_or}
use borrow.Author.Tests.{not-true}
use Rattle.words.specs.Bits.{bit, is_set}
use Rattle.words.proofs.BitLaws.{unset_zero, zero_unset, bit_above}
use Rattle.unit.specs.declared.FunctionUnit.{FunctionUnit}
use Rattle.unit.specs.Unit.{marked, sound_of}
use Rattle.collision.specs.Pipeline.{total}
use Rattle.collision.specs.Vector.{largest_column}
use Rattle.controller.specs.Bank.{register, row_for}
use Rattle.controller.proofs.TickLaws.{granted_bit, bit_granted, register_below}
use Rattle.diagram.specs.Work.{state_in}
use Rattle.graphs.specs.Graph.{Graph, Walk, stay, step, Reachable, states_along, CycleAt}
use Rattle.graphs.proofs.Listing.{states_distinct, states_reached, list_extends}
use Rattle.mean_cycle.specs.declared.Cycle.{Cycle}
use Rattle.mean_cycle.specs.Mean.{found}
use Rattle.mean_cycle.specs.Nodes.{arc_word, Arc, NodeWalk, rest, onward, Least, cyc}
use Rattle.mean_cycle.specs.Table.{TableGraph, tabled}
use Rattle.mean_cycle.proofs.Cycles.{spell, cycle_spell, total_spell}
use Rattle.loops.specs.declared.State.{State}
use Rattle.loops.specs.declared.steps.Rules.{Rules}
use Rattle.loops.specs.Loop.{Loop}
use Rattle.loops.specs.Steps.{ShortStep, following, next_tag, first_state, stepped, arc_graph}
use Rattle.loops.specs.Best.{BestLoop}
use Rattle.loops.specs.Inner.{RulesOf, position_after, masked, advanced, rule_arc, rule_first, RuleStep, rule_graph, rule_tests, rule_states, state_of, Explored}
use Rattle.loops.proofs.BankLaws.{started_value}
use Rattle.loops.proofs.StepLaws.{Kept, kept_arcs}
use Rattle.loops.proofs.BestLaws.{to_start, best_loop}
use Rattle.graphs.specs.Rotation.{rotate}
use Rattle.loops.proofs.StoreLaws.{list_length, list_at}
use Rattle.loops.proofs.TurnLaws.{rule_right}

-- A sequence of states, each led to by a label from the one before, back to the first, is a cycle

module _ (G : Graph) (c : ℕ → ℕ) (f : ℕ → G.State) (count : ℕ) (permits : (i : ℕ) → i < count → G.Permits (f i) (c i))
    (leads : (i : ℕ) → i < count → f (suc i) ≡ G.next (f i) (c i)) where
  walk_spell : (m i k : ℕ) → i + m ≡ k → k ≤ count → Walk G (f i) (spell c i m) (f k)
  walk_spell zero i k e l =
      let q : i ≡ k = omega arith in
      subst (λ (z : ℕ). Walk G (f i) [] (f z)) q stay
  walk_spell (suc m) i k e l =
      step (permits i (omega arith))
      (subst (λ (s : G.State). Walk G s (spell c (suc i) m) (f k)) (leads i (omega arith)) (walk_spell m (suc i) k (omega arith) l))

  along_more : (m i : ℕ) → i < count → states_along G (f i) (spell c i (suc m)) ≡ f i ∷ states_along G (f (suc i)) (spell c (suc i) m)
  along_more m i l = ap (λ (s : G.State). f i ∷ states_along G s (spell c (suc i) m)) (sym (leads i l))

  along_length : (m i : ℕ) → i + m ≤ count → length (states_along G (f i) (spell c i m)) ≡ m
  along_length zero i l = refl
  along_length (suc m) i l = ap length (along_more m i (omega arith)) ∙ ap suc (along_length m (suc i) (omega arith))

  along_at : (m i j : ℕ) → i + m ≤ count → j < m → get_or (states_along G (f i) (spell c i m)) j G.first ≡ f (i + j)
  along_at zero i j l h = absurd (not-suc-le-zero h)
  along_at (suc m) i zero l h = let e : i ≡ i + 0 = omega arith in ap f e
  along_at (suc m) i (suc j) l h =
      let e : suc i + j ≡ i + suc j = omega arith in
      ap (λ (s : List G.State). get_or s (suc j) G.first) (along_more m i (omega arith))
      ∙ along_at m (suc i) j (omega arith) (le_of_suc-le-suc h) ∙ ap f e

  pub sequence_cycle : Reachable G (f 0) → f count ≡ f 0 → ((i j : ℕ) → i < count → j < count → f i ≡ f j → i ≡ j) → CycleAt G (f 0) (spell c 0 count)
  sequence_cycle reached closed apart =
      let size = along_length count 0 (omega arith) in
      let at : (i : ℕ) → i < count → get_or (states_along G (f 0) (spell c 0 count)) i G.first ≡ f i =
      λ i l. let e : 0 + i ≡ i = omega arith in along_at count 0 i (omega arith) l ∙ ap f e in
      record {
        reached = reached;
        closed = subst (λ (s : G.State). Walk G (f 0) (spell c 0 count) s) closed (walk_spell count 0 count (omega arith) (omega arith));
        apart = λ i j l m e.
            let low : j < count = omega (arith, size) in
            let q : i ≡ j = apart i j (omega arith) low (sym (at i (omega arith)) ∙ e ∙ at j low) in
            omega arith;
      }

-- The rules of a loop

module _ (u : FunctionUnit) (tags : List ℕ) (loop : Loop u tags) (R : Rules) (rules : RulesOf u tags R) where
  after_same : (s : State) → position_after R s.position ≡ following tags s
  after_same s = ap (λ n. (s.position + 1) % n) rules.count

  pub mask_same : (s : State) → masked R s ≡ register s.bank (next_tag tags s)
  mask_same s =
      ap (λ p. register s.bank (get_or R.tags p 0)) (after_same s)
      ∙ ap (register s.bank) (rules.tag (following tags s) (mod-lt (s.position + 1) loop.some))

  row_at : (p r : ℕ) → p < length tags → r < 4 → get_or R.rows (p * 4 + r) 0 ≡ row_for u (get_or tags p 0) (r + 1)
  row_at p r h k = rules.rows p r h k

  row_first : (p : ℕ) → p < length tags → get_or R.rows (p * 4) 0 ≡ row_for u (get_or tags p 0) 1
  row_first p h = let e : p * 4 ≡ p * 4 + 0 = omega arith in ap (λ k. get_or R.rows k 0) e ∙ row_at p 0 h (omega arith)

  -- the state that the rules lead to is the state after the step
  pub advance_same : (s : State) (t : ℕ) → 1 ≤ t → advanced R s t ≡ stepped u tags s t
  advance_same s t h =
      let p : ℕ = following tags s in
      let l : p < length tags = mod-lt (s.position + 1) loop.some in
      let a = after_same s in
      let row1 : get_or R.rows (position_after R s.position * 4) 0 ≡ row_for u (next_tag tags s) 1 = ap (λ k. get_or R.rows (k * 4) 0) a ∙ row_first p l in
      let row2 : get_or R.rows (position_after R s.position * 4 + 1) 0 ≡ row_for u (next_tag tags s) 2 = ap (λ k. get_or R.rows (k * 4 + 1) 0) a ∙ row_at p 1 l (omega arith) in
      let row3 : get_or R.rows (position_after R s.position * 4 + 2) 0 ≡ row_for u (next_tag tags s) 3 = ap (λ k. get_or R.rows (k * 4 + 2) 0) a ∙ row_at p 2 l (omega arith) in
      let row4 : get_or R.rows (position_after R s.position * 4 + 3) 0 ≡ row_for u (next_tag tags s) 4 = ap (λ k. get_or R.rows (k * 4 + 3) 0) a ∙ row_at p 3 l (omega arith) in
      let v = started_value u (next_tag tags s) t s.bank h in
      (λ i. record {
        position = a i;
        bank = record {
          r1 = bit_or (s.bank.r1 / 2 ^ t) (row1 i);
          r2 = bit_or (s.bank.r2 / 2 ^ t) (row2 i);
          r3 = bit_or (s.bank.r3 / 2 ^ t) (row3 i);
          r4 = bit_or (s.bank.r4 / 2 ^ t) (row4 i);
        };
      })
      ∙ (λ i. record { position = following tags s; bank = sym v i })

  pub first_same : rule_first R ≡ first_state u tags
  first_same =
      let l = loop.some in
      λ i. record {
        position = 0;
        bank = record {
          r1 = bit_or 0 (row_first 0 l i);
          r2 = bit_or 0 (row_at 0 1 l (omega arith) i);
          r3 = bit_or 0 (row_at 0 2 l (omega arith) i);
          r4 = bit_or 0 (row_at 0 3 l (omega arith) i);
        };
      }

  free_bit : (b : Bool) → not b ≡ true → b ≡ false
  free_bit b e = not-true b e

  pub rule_step : (s : State) (t : ℕ) → RuleStep R s t → ShortStep (largest_column (marked u)) tags s t
  rule_step s t p = record {
    step = record {
      least = p.least;
      granted = bit_granted s.bank t (next_tag tags s) (ap (λ m. is_set m (t - 1)) (sym (mask_same s)) ∙ not-true _ p.free);
    };
    most = omega (arith, p.most, rules.width);
  }

  pub step_rule : (s : State) (t : ℕ) → ShortStep (largest_column (marked u)) tags s t → RuleStep R s t
  step_rule s t p = record {
    least = p.step.least;
    most = omega (arith, p.most, rules.width);
    free = ap not (ap (λ m. is_set m (t - 1)) (mask_same s) ∙ granted_bit s.bank t (next_tag tags s) p.step.granted);
  }

  rules_arcs : {s e : State} {l : List ℕ} → Walk (rule_graph R) s l e → Walk (arc_graph u tags) s l e
  rules_arcs stay = stay
  rules_arcs (step {s} {e} {t} {l} p w) =
      step (rule_step s t p) (subst (λ (x : State). Walk (arc_graph u tags) x l e) (advance_same s t p.least) (rules_arcs w))

  pub arcs_rules : {s e : State} {l : List ℕ} → Walk (arc_graph u tags) s l e → Walk (rule_graph R) s l e
  arcs_rules stay = stay
  arcs_rules (step {s} {e} {t} {l} p w) =
      step (step_rule s t p) (subst (λ (x : State). Walk (rule_graph R) x l e) (sym (advance_same s t p.step.least)) (arcs_rules w))

  pub rules_reached : (s : State) → Reachable (rule_graph R) s → Reachable (arc_graph u tags) s
  rules_reached s r = record { along = r.along; walk = subst (λ (x : State). Walk (arc_graph u tags) x r.along s) first_same (rules_arcs r.walk) }

  pub reached_rules : (s : State) → Reachable (arc_graph u tags) s → Reachable (rule_graph R) s
  reached_rules s r = record { along = r.along; walk = subst (λ (x : State). Walk (rule_graph R) x r.along s) (sym first_same) (arcs_rules r.walk) }

  -- The nodes

  module _ (sound : sound_of u ≡ true) (w₀ w : List ℕ) (r : ℕ) (h : Explored w₀ w R r) (few : r ≤ 256) (room : 11264 ≤ length w₀) where
    node_at : (v : ℕ) → v < r → state_of w v ≡ get_or (rule_states R) v (rule_first R)
    node_at v l = sym (list_at w (rule_first R) r v l) ∙ ap (λ (m : List State). get_or m v (rule_first R)) (h.list few)

    pub node_count : length (rule_states R) ≡ r
    node_count = ap length (sym (h.list few)) ∙ list_length w r

    node_reached : (v : ℕ) → v < r → Reachable (arc_graph u tags) (state_of w v)
    node_reached v l =
        rules_reached (state_of w v)
        (subst (Reachable (rule_graph R)) (sym (node_at v l)) (states_reached (rule_graph R) (rule_tests R) (rule_right R) 256 v (omega (arith, node_count))))

    pub node_kept : (v : ℕ) → v < r → Kept u tags (state_of w v)
    node_kept v l = kept_arcs u tags sound loop (state_of w v) (node_reached v l)

    node_first : state_of w 0 ≡ first_state u tags
    node_first =
        node_at 0 h.some ∙ (list_extends (rule_graph R) (rule_tests R) (rule_right R) 257 0 (rule_first R ∷ [])).same 0 (omega arith) ∙ first_same

    node_apart : (i j : ℕ) → i < r → j < r → state_of w i ≡ state_of w j → i ≡ j
    node_apart i j l m e =
        let same : get_or (rule_states R) i (rule_first R) ≡ get_or (rule_states R) j (rule_first R) = sym (node_at i l) ∙ e ∙ node_at j m in
        let below : (i < j → ⊥) = λ o. states_distinct (rule_graph R) (rule_tests R) (rule_right R) 256 i j o (omega (arith, node_count)) same in
        let above : (j < i → ⊥) = λ o. states_distinct (rule_graph R) (rule_tests R) (rule_right R) 256 j i o (omega (arith, node_count)) (sym same) in
        omega arith

    node_narrow : (v : ℕ) → v < r → state_in w v < 2 ^ R.width
    node_narrow v l =
        subst (λ (n : ℕ). state_in w v < 2 ^ n) (sym rules.width)
        (subst (λ (m : ℕ). m < 2 ^ largest_column (marked u)) (sym ((h.done few v l).mask ∙ mask_same (state_of w v)))
        (register_below (largest_column (marked u)) (state_of w v).bank (next_tag tags (state_of w v)) (node_kept v l).below))

    pub explored_table : TableGraph w r R.width
    explored_table = record {
      some = h.some;
      few = few;
      room = omega (arith, h.size, room);
      slim = R.slim;
      narrow = node_narrow;
      targets = λ a l.
          let v : ℕ = a / 32 in
          let t : ℕ = a % 32 + 1 in
          let e : 1791 + v * 32 + t ≡ 1792 + a = omega arith in
          let o : v < r = omega arith in
          subst (λ (k : ℕ). get_or w k 0 < r) e ((h.done few v o).row t (omega arith) (omega arith)).inside;
    }

    -- an arc of the table is a step
    arc_rule : {v t x : ℕ} → Arc w (tabled r R.width) v t x → RuleStep R (state_of w v) t
    arc_rule {v} {t} {x} a = record { least = a.permits.positive; most = omega (arith, a.permits.small); free = free (dec_le t R.width) }
      where
        zeros : bit (state_in w v) (t - 1) ≡ 0 → rule_arc R (state_of w v) t ≡ true
        zeros z = ap not (ap (λ m. is_set m (t - 1)) (sym (h.done few v a.leaves).mask) ∙ zero_unset (state_in w v) (t - 1) z)

        free : Dec (t ≤ R.width) → rule_arc R (state_of w v) t ≡ true
        free (yes l) = zeros (a.permits.free l)
        free (no l) = zeros (bit_above (state_in w v) R.width (t - 1) (node_narrow v a.leaves) (omega arith))

    arc_state : {v t x : ℕ} → Arc w (tabled r R.width) v t x → state_of w x ≡ stepped u tags (state_of w v) t
    arc_state {v} {t} {x} a =
        let p = arc_rule a in
        ap (state_of w) (sym a.leads) ∙ ((h.done few v a.leaves).row t p.least a.high).leads p.most p.free
        ∙ advance_same (state_of w v) t p.least

    -- a step is an arc of the table
    step_arc : (v t : ℕ) → v < r → ShortStep (largest_column (marked u)) tags (state_of w v) t → Arc w (tabled r R.width) v t (arc_word w v t)
    step_arc v t l p =
        let q = step_rule (state_of w v) t p in
        let low = q.least in
        let top : t ≤ 32 = omega (arith, q.most, R.slim) in
        record {
          leaves = l;
          enters = ((h.done few v l).row t q.least top).inside;
          permits = record {
            positive = q.least;
            spaced = q.least;
            small = omega (arith, q.most);
            free = λ m. unset_zero (state_in w v) (t - 1) (ap (λ k. is_set k (t - 1)) (h.done few v l).mask ∙ not-true _ q.free);
          };
          high = top;
          leads = refl;
        }

    walk_nodes : {s e : State} {l : List ℕ} → Walk (arc_graph u tags) s l e → (v : ℕ) → v < r → state_of w v ≡ s → (x : ℕ) × NodeWalk w (tabled r R.width) v l x
    walk_nodes stay v l same = (v, rest)
    walk_nodes (step {s} {e} {t} p k) v l same =
        let a = step_arc v t l (subst (λ (x : State). ShortStep (largest_column (marked u)) tags x t) (sym same) p) in
        let m = walk_nodes k (arc_word w v t) a.enters (arc_state a ∙ ap (λ (x : State). stepped u tags x t) same) in
        (m.0, onward a m.1)

    -- the cycle that was found, turned so that it begins at position 0
    pub explored_best : (after : List ℕ) (c : Cycle) → Least w after (tabled r R.width) c
        → BestLoop u tags (rotate (found after c) (to_start tags (state_of w c.start)))
    explored_best after c l =
        let z = l.cycle in
        let count : ℕ = c.count in
        let short : count ≤ 256 = omega (arith, z.few) in
        let spelled : found after c ≡ spell (cyc after) 0 count = cycle_spell after count (omega (arith, l.frame.size, h.size)) in
        let sum : total (spell (cyc after) 0 count) ≡ c.sum = total_spell (cyc after) count ∙ sym z.total in
        let long : length (spell (cyc after) 0 count) ≡ count = spell_length (cyc after) count 0 in
        let cycle : CycleAt (arc_graph u tags) (state_of w (z.node 0)) (spell (cyc after) 0 count) =
        sequence_cycle (arc_graph u tags) (cyc after) (λ i. state_of w (z.node i)) count
        (λ i m. rule_step (state_of w (z.node i)) (cyc after i) (arc_rule (z.arcs i m)))
        (λ i m. arc_state (z.arcs i m))
        (node_reached (z.node 0) (z.arcs 0 z.some).leaves)
        (ap (state_of w) z.closed)
        (λ i j m n e. z.apart i j m n (node_apart (z.node i) (z.node j) (z.arcs i m).leaves (z.arcs j n).leaves e)) in
        let floor : (k : List ℕ) (e : State) → Walk (arc_graph u tags) (first_state u tags) k e
        → total (spell (cyc after) 0 count) * length k ≤ length (spell (cyc after) 0 count) * total k + l.floor.bound =
        λ k e walk.
        let m = walk_nodes walk 0 h.some node_first in
        rw (sum, long) (l.floor.every k m.0 m.1) in
        let best : BestLoop u tags (rotate (spell (cyc after) 0 count) (to_start tags (state_of w (z.node 0)))) =
        best_loop u tags sound loop (state_of w (z.node 0)) (spell (cyc after) 0 count) cycle (omega (arith, long, z.some)) l.floor.bound floor in
        subst (λ (k : List ℕ). BestLoop u tags (rotate k (to_start tags (state_of w c.start)))) (sym spelled)
        (subst (λ (v : ℕ). BestLoop u tags (rotate (spell (cyc after) 0 count) (to_start tags (state_of w v)))) z.begins best)
      where
        spell_length : (f : ℕ → ℕ) (m i : ℕ) → length (spell f i m) ≡ m
        spell_length f zero i = refl
        spell_length f (suc m) i = ap suc (spell_length f m (suc i))
