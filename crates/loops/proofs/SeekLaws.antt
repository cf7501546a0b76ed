-- What the search for a loop's latencies answers. Assumes nothing.
use Rattle.std.proofs.Common.{Result, Ok, Err, Some, None}
use mathlib.Core.Path.{◌≡◌, refl, sym, ap, ◌∙◌, subst}
use mathlib.Core.Bool.{Bool, true, false}
use mathlib.Core.List.{List}
use Prim.Native.Nat.{ℕ, zero, suc, ◌*◌, ◌≤◌, ◌<◌}
use native.Mathlib.Decide.{dec_lt}
use native.Mathlib.Omega.{arith}
use borrow.Author.Tests.{le-leb, lt-leb}
use lib.Dec.{leb}
use lib.ListN.{length, get_or}
use Rattle.words.proofs.Tests.{nowhere}
use Rattle.unit.specs.declared.FunctionUnit.{FunctionUnit}
use Rattle.unit.specs.declared.Plan.{Plan}
use Rattle.unit.specs.declared.Refusal.{Refusal}
use Rattle.unit.specs.declared.Refusal.TheVariants.{NotSound, BadLoop, NoSuchTag, ShortWork, TooManyStates}
use Rattle.unit.specs.Unit.{inside, sound_of}
use Rattle.unit.specs.Calls.{check}
use Rattle.unit.proofs.Laws.{never_done, within}
use Rattle.collision.specs.Pipeline.{total}
use Rattle.graphs.specs.Graph.{Reachable}
use Rattle.graphs.specs.States.{More}
use Rattle.graphs.proofs.Many.{too_many}
use Rattle.graphs.specs.Rotation.{rotate}
use Rattle.graphs.proofs.Rotations.{rotate_length}
use Rattle.planner.specs.Plans.{plan_of}
use Rattle.planner.proofs.SearchLaws.{never_planned}
use Rattle.mean_cycle.specs.declared.Cycle.{Cycle}
use Rattle.mean_cycle.specs.Nodes.{Least, cyc}
use Rattle.mean_cycle.specs.Table.{tabled, TableSearched}
use Rattle.mean_cycle.proofs.Cycles.{cycle_spell, total_spell}
use Rattle.mean_cycle.proofs.Sums.{sum_below}
use Rattle.loops.specs.declared.State.{State}
use Rattle.loops.specs.declared.steps.Rules.{Rules}
use Rattle.loops.specs.Loop.{Loop}
use Rattle.loops.specs.Steps.{first_state, loop_states, arc_graph, arc_tests}
use Rattle.loops.specs.Best.{BestLoop}
use Rattle.loops.specs.Answers.{all_tags, loop_answer, LoopPromise}
use Rattle.loops.specs.Inner.{RulesOf, rule_graph, rule_tests, rule_states, rule_first, state_of, Explored, cycle_in, Standing, Turnable, turn_of, Checked, Sought}
use Rattle.loops.proofs.StateLaws.{tests_right}
use Rattle.loops.proofs.BestLaws.{to_start}
use Rattle.loops.proofs.StoreLaws.{state_kept}
use Rattle.loops.proofs.TurnLaws.{rule_right}
use Rattle.loops.proofs.NodeLaws.{first_same, rules_reached, reached_rules, node_kept, node_count, explored_table, explored_best}
use Rattle.loops.proofs.PlanLaws.{standing_length}
use Rattle.loops.proofs.RulingLaws.{all_known}

-- How many states there are, by the rules and by the steps

module _ (u : FunctionUnit) (tags : List ℕ) (loop : Loop u tags) (R : Rules) (h : RulesOf u tags R) where
  other_default : (l : List State) (i : ℕ) → get_or l i (rule_first R) ≡ get_or l i (first_state u tags)
  other_default l i = ap (get_or l i) (first_same u tags loop R h)

  rules_more : More 256 (rule_graph R) → More 256 (arc_graph u tags)
  rules_more m = record {
    some = m.some;
    many = m.many;
    distinct = λ i j l k e. m.distinct i j l k (other_default m.some i ∙ e ∙ sym (other_default m.some j));
    reached = λ i l.
        subst (Reachable (arc_graph u tags)) (other_default m.some i)
        (rules_reached u tags loop R h (get_or m.some i (rule_first R)) (m.reached i l));
  }

  more_rules : More 256 (arc_graph u tags) → More 256 (rule_graph R)
  more_rules m = record {
    some = m.some;
    many = m.many;
    distinct = λ i j l k e. m.distinct i j l k (sym (other_default m.some i) ∙ e ∙ other_default m.some j);
    reached = λ i l.
        subst (Reachable (rule_graph R)) (sym (other_default m.some i))
        (reached_rules u tags loop R h (get_or m.some i (first_state u tags)) (m.reached i l));
  }

  pub many_states : 256 < length (rule_states R) → 256 < length (loop_states u tags)
  many_states l =
      (too_many 256 (arc_graph u tags) (arc_tests u tags) (tests_right u tags)).0
      (rules_more ((too_many 256 (rule_graph R) (rule_tests R) (rule_right R)).1 l))

  pub few_states_lem : length (rule_states R) ≤ 256 → length (loop_states u tags) ≤ 256
  few_states_lem l = go (dec_lt 256 (length (loop_states u tags)))
    where
      go : Dec (256 < length (loop_states u tags)) → length (loop_states u tags) ≤ 256
      go (yes m) =
          absurd
          (omega (
            arith,
            (too_many 256 (rule_graph R) (rule_tests R) (rule_right R)).0
                (more_rules ((too_many 256 (arc_graph u tags) (arc_tests u tags) (tests_right u tags)).1 m)),
          ))
      go (no m) = omega arith

-- Refused by 7

pub sought_many : (u : FunctionUnit) (tags w w' : List ℕ) (R : Rules) (r : ℕ) → Checked u tags w → RulesOf u tags R → Explored w w' R r → 256 < r
    → Sought u tags w w' (Err TooManyStates)
sought_many u tags w w' R r k h x l =
    record {
      size = x.size;
      beyond = λ j m. x.high j (omega arith);
      says = sym (ap (λ b. check b TooManyStates (Ok tt)) (lt-leb (length (loop_states u tags)) 256 (many_states u tags k.loop R h (x.over l))));
      found = λ p f. never_planned f;
    }

-- The table is always one

pub never_no : (u : FunctionUnit) (tags w w₁ w₂ : List ℕ) (R : Rules) (r : ℕ) → Checked u tags w → RulesOf u tags R → Explored w w₁ R r → r ≤ 256
    → TableSearched r R.width w₁ w₂ None → ⊥
never_no u tags w w₁ w₂ R r k h x few s =
    nowhere (s.found (explored_table u tags k.loop R h k.sound w w₁ r x few (omega (arith, k.room))))

-- Found

module _ (u : FunctionUnit) (tags w w₁ w₂ : List ℕ) (R : Rules) (r : ℕ) (k : Checked u tags w) (h : RulesOf u tags R) (x : Explored w w₁ R r) (few : r ≤ 256)
    (c : Cycle) (s : TableSearched r R.width w₁ w₂ (Some c)) where
  least : Least w₁ w₂ (tabled r R.width) c
  least = s.least c refl

  count_few : c.count ≤ 256
  count_few = omega (arith, least.cycle.few)

  room : 11264 ≤ length w
  room = omega (arith, k.room)

  best : BestLoop u tags (rotate (cycle_in w₂ c.count) (to_start tags (state_of w₁ c.start)))
  best = explored_best u tags k.loop R h k.sound w w₁ r x few room w₂ c least

  start_low : c.start < r
  start_low = subst (λ (v : ℕ). v < r) least.cycle.begins (least.cycle.arcs 0 least.cycle.some).leaves

  state_same : state_of w₂ c.start ≡ state_of w₁ c.start
  state_same = state_kept w₁ w₂ (λ j a b. least.frame.high j (omega arith)) c.start (omega (arith, start_low))

  standing : Standing w₂ c.count
  standing = record {
    some = least.cycle.some;
    few = count_few;
    room = omega (arith, least.frame.size, x.size, room);
    small = λ i l. (least.cycle.arcs i l).high;
  }

  long : length tags ≤ c.count
  long = go best.schedule.turns best.schedule.whole
    where
      n : length (rotate (cycle_in w₂ c.count) (to_start tags (state_of w₁ c.start))) ≡ c.count
      n = rotate_length (cycle_in w₂ c.count) (to_start tags (state_of w₁ c.start)) ∙ standing_length w₂ c.count standing

      go : (t : ℕ) → length (rotate (cycle_in w₂ c.count) (to_start tags (state_of w₁ c.start))) ≡ t * length tags → length tags ≤ c.count
      go zero e = absurd (omega (arith, n, least.cycle.some))
      go (suc t) e = omega (arith, n)

  pub turnable : Turnable w₂ (length tags) c
  turnable = record {
    standing = standing;
    start = omega (arith, start_low);
    place = subst (λ (y : State). y.position < length tags) (sym state_same) (node_kept u tags k.loop R h k.sound w w₁ r x few room c.start start_low).place;
    short = k.loop.few;
    long = long;
    adds = least.cycle.total ∙ sym (ap total (cycle_spell w₂ c.count (omega (arith, standing.room, count_few))) ∙ total_spell (cyc w₂) c.count);
    low = omega (arith, least.cycle.total, sum_below (cyc w₂) c.count 32 (λ i l. (least.cycle.arcs i l).high), count_few);
  }

  pub sought_found : (p : Plan) → p ≡ plan_of 0 (rotate (cycle_in w₂ c.count) (turn_of w₂ (length tags) c)) → Sought u tags w w₂ (Ok p)
  sought_found p e =
      let same : turn_of w₂ (length tags) c ≡ to_start tags (state_of w₁ c.start) = ap (to_start tags) state_same in
      let l : List ℕ = rotate (cycle_in w₂ c.count) (to_start tags (state_of w₁ c.start)) in
      record {
        size = least.frame.size ∙ x.size;
        beyond = λ j m. least.frame.high j (omega arith) ∙ x.high j (omega arith);
        says =
            sym (ap (λ b. check b TooManyStates (Ok tt)) (le-leb (length (loop_states u tags)) 256
            (few_states_lem u tags k.loop R h (omega (arith, node_count u tags k.loop R h k.sound w w₁ r x few room)))));
        found = λ x f. record {
          latencies = rotate (cycle_in w₂ c.count) (to_start tags (state_of w₁ c.start));
          few = omega (arith, rotate_length (cycle_in w₂ c.count) (to_start tags (state_of w₁ c.start)), standing_length w₂ c.count standing, count_few);
          best = best;
          held = let same_plan : x ≡ p = cc in same_plan ∙ e ∙ ap (λ t. plan_of 0 (rotate (cycle_in w₂ c.count) t)) same;
        };
      }

-- The refusals before the search

module _ (u : FunctionUnit) (tags w : List ℕ) where
  -- a call that is refused before it searches
  promised_refused : (why : Refusal) → loop_answer u tags (length w) ≡ Err why → LoopPromise u tags w w (Err why)
  promised_refused why says = record {
    says = sym says;
    found = λ p f. never_planned f;
    work = record { size = refl; beyond = λ j l. refl; kept = λ other f ne. refl };
  }

  pub promised_unsound : sound_of u ≡ false → LoopPromise u tags w w (Err NotSound)
  unfolding loop_answer
  promised_unsound s = promised_refused NotSound (simp s)

  pub promised_list : sound_of u ≡ true → inside (length tags) 8 ≡ false → LoopPromise u tags w w (Err BadLoop)
  unfolding loop_answer
  promised_list s l = promised_refused BadLoop (simp (s, l))

  pub promised_tag : sound_of u ≡ true → inside (length tags) 8 ≡ true → all_tags u tags ≡ false → LoopPromise u tags w w (Err NoSuchTag)
  unfolding loop_answer
  promised_tag s l t = promised_refused NoSuchTag (simp (s, l, t))

  module _ (s : sound_of u ≡ true) (l : inside (length tags) 8 ≡ true) (known : all_tags u tags ≡ true) where
    pub promised_short : length w < 16000 → LoopPromise u tags w w (Err ShortWork)
    unfolding loop_answer
    promised_short h = promised_refused ShortWork (simp (s, l, known, lt-leb 16000 (length w) h))

    pub checked : 16000 ≤ length w → Checked u tags w
    checked h =
        let k = within (length tags) 8 l in
        record { sound = s; loop = record { some = k.least; few = k.most; tag = all_known u tags known }; room = h }

    pub promised_sought : (w' : List ℕ) (a : Result Plan Refusal) → 16000 ≤ length w → Sought u tags w w' a → LoopPromise u tags w w' a
    unfolding loop_answer
    promised_sought w' a h r = record {
      says = r.says ∙ sym (simp (s, l, known, le-leb 16000 (length w) h));
      found = r.found;
      work = record {
        size = r.size;
        beyond = r.beyond;
        kept = λ why e ne. absurd (ne (only_7 (leb (length (loop_states u tags)) 256) why (sym r.says ∙ e)));
      };
    }
      where
        only_7 : (b : Bool) (why : Refusal) → check b TooManyStates (Ok tt) ≡ Err why → why ≡ TooManyStates
        only_7 true why e = never_done (sym e)
        only_7 false why e = cc
