-- The list of a loop's states: the tests behind it are right; it has each state that steps reach once, or is longer than 256 exactly when more than
-- 256 are reached. Assumes nothing.
use mathlib.Core.Path.{◌≡◌, refl, sym, ap, subst}
use mathlib.Core.Bool.{true, ◌&&◌}
use mathlib.Core.Logic.{◌↔◌}
use mathlib.Core.List.{List, [], ◌∷◌}
use Prim.Native.Nat.{ℕ, suc, ◌+◌, ◌≤◌, ◌<◌, min}
use native.Mathlib.Omega.{arith}
use lib.Dec.{eqb}
use lib.ListN.{length, get_or}
use borrow.Author.Tests.{eqb-true, eq-eqb}
use Rattle.words.proofs.Tests.{and_left, and_right, and_true}
use Rattle.unit.specs.declared.FunctionUnit.{FunctionUnit}
use Rattle.unit.specs.Unit.{marked, sound_of}
use Rattle.collision.specs.Pipeline.{total}
use Rattle.collision.specs.Vector.{largest_column}
use Rattle.controller.specs.declared.Bank.{Bank}
use Rattle.graphs.specs.Graph.{Walk, stay, step, Reachable, Listed, Each, Distinct, states_along, CycleAt}
use Rattle.graphs.specs.States.{Right, More}
use Rattle.graphs.proofs.Listing.{states_distinct, states_reached, states_complete}
use Rattle.graphs.proofs.Many.{too_many}
use Rattle.loops.specs.Loop.{Loop}
use Rattle.loops.specs.declared.State.{State}
use Rattle.loops.specs.Steps.{first_state, stepped, loop_graph, arc_graph, same_bank, same_state, arc_tests, loop_states}
use Rattle.loops.proofs.StepLaws.{Kept, kept_first, kept_step, step_cut, permits_cut}

-- The tests

same_bank_lem : (a b : Bank) → same_bank a b ≡ true → a ≡ b
same_bank_lem a b e =
    let e1 : a.r1 ≡ b.r1 = eqb-true a.r1 b.r1 (and_left (eqb a.r1 b.r1) _ e) in
    let f : eqb a.r2 b.r2 && (eqb a.r3 b.r3 && eqb a.r4 b.r4) ≡ true = and_right (eqb a.r1 b.r1) _ e in
    let e2 : a.r2 ≡ b.r2 = eqb-true a.r2 b.r2 (and_left (eqb a.r2 b.r2) _ f) in
    let h : eqb a.r3 b.r3 && eqb a.r4 b.r4 ≡ true = and_right (eqb a.r2 b.r2) _ f in
    let e3 : a.r3 ≡ b.r3 = eqb-true a.r3 b.r3 (and_left (eqb a.r3 b.r3) _ h) in
    let e4 : a.r4 ≡ b.r4 = eqb-true a.r4 b.r4 (and_right (eqb a.r3 b.r3) _ h) in
    λ i. record { r1 = e1 i; r2 = e2 i; r3 = e3 i; r4 = e4 i }

pub same_state_lem : (x y : State) → same_state x y ≡ true → x ≡ y
same_state_lem x y e =
    let p : x.position ≡ y.position = eqb-true x.position y.position (and_left (eqb x.position y.position) _ e) in
    let b : x.bank ≡ y.bank = same_bank_lem x.bank y.bank (and_right (eqb x.position y.position) _ e) in
    λ i. record { position = p i; bank = b i }

pub state_same : (x : State) → same_state x x ≡ true
state_same x =
    and_true (eq-eqb x.position x.position refl)
    (and_true (eq-eqb x.bank.r1 x.bank.r1 refl)
    (and_true (eq-eqb x.bank.r2 x.bank.r2 refl)
    (and_true (eq-eqb x.bank.r3 x.bank.r3 refl) (eq-eqb x.bank.r4 x.bank.r4 refl))))

pub tests_right : (u : FunctionUnit) (tags : List ℕ) → Right (arc_graph u tags) (arc_tests u tags)
tests_right u tags = record {
  same = λ x y. (same_state_lem x y, λ e. subst (λ (z : State). same_state x z ≡ true) e (state_same x));
  arc = λ s t h k e. record { step = record { least = h; granted = e }; most = k };
  permits = λ s t p. (p.step.least, p.most, p.step.granted);
}

-- Arcs and steps

-- arcs are steps
pub arcs_steps : (u : FunctionUnit) (tags : List ℕ) {s e : State} {l : List ℕ} → Walk (arc_graph u tags) s l e → Walk (loop_graph u tags) s l e
arcs_steps u tags stay = stay
arcs_steps u tags (step p w) = step p.step (arcs_steps u tags w)

pub along_same : (u : FunctionUnit) (tags : List ℕ) (s : State) (l : List ℕ) → states_along (arc_graph u tags) s l ≡ states_along (loop_graph u tags) s l
along_same u tags s [] = refl
along_same u tags s (t ∷ l) = ap (λ (k : List State). s ∷ k) (along_same u tags (stepped u tags s t) l)

pub cycle_steps : (u : FunctionUnit) (tags : List ℕ) (s : State) (l : List ℕ) → CycleAt (arc_graph u tags) s l → CycleAt (loop_graph u tags) s l
cycle_steps u tags s l c = record {
  reached = record { along = c.reached.along; walk = arcs_steps u tags c.reached.walk };
  closed = arcs_steps u tags c.closed;
  apart = subst (λ (k : List State). Distinct (loop_graph u tags) k) (along_same u tags s l) c.apart;
}

module _ (u : FunctionUnit) (tags : List ℕ) (sound : sound_of u ≡ true) (loop : Loop u tags) where
  -- the same walk by arcs, as long, each latency cut
  pub record ByArcs (s : State) (l : List ℕ) (e : State) : Type 0 where
    pub along : List ℕ
    pub walk : Walk (arc_graph u tags) s along e
    pub count : length along ≡ length l
    pub sum : total along ≤ total l

  pub steps_arcs : {s e : State} {l : List ℕ} → Kept u tags s → Walk (loop_graph u tags) s l e → ByArcs s l e
  steps_arcs k stay = record { along = []; walk = stay; count = refl; sum = omega arith }
  steps_arcs k (step {s} {e} {t} {l} p w) =
      let r : ByArcs (stepped u tags s t) l e = steps_arcs (kept_step u tags sound loop s t k) w in
      let v : Walk (arc_graph u tags) (stepped u tags s (min t (largest_column (marked u) + 1))) r.along e =
      subst (λ (x : State). Walk (arc_graph u tags) x r.along e) (sym (step_cut u tags sound loop s t k)) r.walk in
      record {
        along = min t (largest_column (marked u) + 1) ∷ r.along;
        walk = step (permits_cut u tags sound loop s t k p) v;
        count = ap suc r.count;
        sum = omega (arith, r.sum);
      }

  -- what steps reach, arcs reach
  pub reached_arcs : (s : State) → Reachable (loop_graph u tags) s → Reachable (arc_graph u tags) s
  reached_arcs s r = let a = steps_arcs (kept_first u tags sound loop) r.walk in record { along = a.along; walk = a.walk }

  pub arcs_reached : (s : State) → Reachable (arc_graph u tags) s → Reachable (loop_graph u tags) s
  arcs_reached s r = record { along = r.along; walk = arcs_steps u tags r.walk }

  -- The list

  pub listed_distinct : Distinct (loop_graph u tags) (loop_states u tags)
  listed_distinct = states_distinct (arc_graph u tags) (arc_tests u tags) (tests_right u tags) 256

  pub listed_reached : Each (loop_graph u tags) (Reachable (loop_graph u tags)) (loop_states u tags)
  listed_reached i h =
      arcs_reached (get_or (loop_states u tags) i (first_state u tags)) (states_reached (arc_graph u tags) (arc_tests u tags) (tests_right u tags) 256 i h)

  pub listed_all : length (loop_states u tags) ≤ 256 → (s : State) → Reachable (loop_graph u tags) s → Listed (loop_graph u tags) s (loop_states u tags)
  listed_all h s r =
      let p = states_complete (arc_graph u tags) (arc_tests u tags) (tests_right u tags) 256 h s (reached_arcs s r) in
      record { index = p.index; inside = p.inside; found = p.found }

  -- more than 256 states are reached by steps exactly when the list is longer
  pub loop_many : More 256 (loop_graph u tags) ↔ (256 < length (loop_states u tags))
  loop_many =
      let b = too_many 256 (arc_graph u tags) (arc_tests u tags) (tests_right u tags) in (
        λ m. b.0 (record { some = m.some; many = m.many; distinct = m.distinct; reached = λ i h. reached_arcs (get_or m.some i (first_state u tags)) (m.reached i h) }),
        λ h. let m = b.1 h in record { some = m.some; many = m.many; distinct = m.distinct; reached = λ i h. arcs_reached (get_or m.some i (first_state u tags)) (m.reached i h) },
      )
