-- A cycle of the state diagram, and the rotation that comes first, by tests that compute. Assumes nothing.
use mathlib.Core.Path.{◌≡◌, ap, subst, ◌∙◌}
use mathlib.Core.Bool.{Bool, true, ◌&&◌}
use mathlib.Core.List.{List, [], ◌∷◌, append-nil}
use Prim.Native.Nat.{ℕ, ◌≤◌}
use lib.Dec.{leb, eqb}
use lib.ListN.{length, get_or}
use borrow.Author.Tests.{eqb-true, leb-true}
use Rattle.words.specs.Below.{some_below, least_from}
use Rattle.words.proofs.Tests.{and_left, and_right, true_T}
use Rattle.words.proofs.BelowLaws.{some_elim}
use Rattle.unit.specs.Unit.{inside}
use Rattle.diagram.specs.Diagram.{next, longest, Walk, stay, step, Reachable}
use Rattle.diagram.specs.States.{Each, arc}
use Rattle.diagram.specs.Cycles.{states_along, CycleFrom}
use Rattle.diagram.proofs.Listing.{arc_permits}
use Rattle.graphs.specs.Rotation.{rotate}
use Rattle.cycles.specs.Rotation.{leads, first_rotation}
use Rattle.papers.proofs.TestLaws.{apart, apart_distinct}

-- no rotation comes before the cycle as it stands
unfoldable pub is_first : List ℕ → Bool
unfolding first_rotation leads least_from some_below
is_first l = eqb (first_rotation l) 0

pub first_tested : (l : List ℕ) → is_first l ≡ true → rotate l (first_rotation l) ≡ l
unfolding is_first
first_tested l h = ap (rotate l) (eqb-true (first_rotation l) 0 h) ∙ append-nil l

module _ (g n cv : ℕ) where
  -- the latencies lead from s to e, each by an arc
  abbrev leads_to : ℕ → List ℕ → ℕ → Bool
  leads_to s [] e = eqb s e
  leads_to s (t ∷ l) e = (inside t (longest g n) && arc g n s t) && leads_to (next cv s t) l e

  walk_tested : (s : ℕ) (l : List ℕ) (e : ℕ) → leads_to s l e ≡ true → Walk g n cv s l e
  walk_tested s [] e h = subst (λ (x : ℕ). Walk g n cv s [] x) (eqb-true s e h) stay
  walk_tested s (t ∷ l) e h =
      let here = and_left (inside t (longest g n) && arc g n s t) _ h in
      let small = and_left (inside t (longest g n)) _ here in
      step
      (arc_permits g n s t (leb-true 1 t (and_left (leb 1 t) _ small))
      (leb-true t (longest g n) (and_right (leb 1 t) _ small))
      (true_T (and_right (inside t (longest g n)) _ here)))
      (walk_tested (next cv s t) l e (and_right (inside t (longest g n) && arc g n s t) _ h))

  -- they lead from s back to it, and no state occurs twice on the way
  abbrev returns_to : ℕ → List ℕ → Bool
  returns_to s l = leads_to s l s && apart (states_along cv s l)

  -- one or more latencies do so from some state of the list m
  unfoldable pub is_cycle : List ℕ → List ℕ → Bool
  unfolding some_below
  is_cycle m l = leb 1 (length l) && some_below (length m) (λ i. returns_to (get_or m i 0) l)

  pub cycle_some : (m l : List ℕ) → is_cycle m l ≡ true → 1 ≤ length l
  unfolding is_cycle
  cycle_some m l h = leb-true 1 (length l) (and_left (leb 1 (length l)) _ h)

  pub cycle_tested : (m : List ℕ) → Each (Reachable g n cv) m → (l : List ℕ) → is_cycle m l ≡ true → CycleFrom g n cv l
  unfolding is_cycle
  cycle_tested m reached l h =
      let from = some_elim (length m) (λ i. returns_to (get_or m i 0) l) (and_right (leb 1 (length l)) _ h) in
      let s = get_or m from.at 0 in
      record {
        state = s;
        reached = reached from.at from.inside;
        closed = walk_tested s l s (and_left (leads_to s l s) _ from.passed);
        apart = apart_distinct (states_along cv s l) (and_right (leads_to s l s) _ from.passed);
      }
