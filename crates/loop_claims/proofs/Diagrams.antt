-- The state diagram of a collision vector is a graph of crate graphs, and its list of states is that graph's: the laws of crate graphs serve both. Assumes nothing.
use mathlib.Core.Path.{◌≡◌, refl, ap, ◌∙◌}
use mathlib.Core.Bool.{Bool, true, false, cond, ◌||◌}
use mathlib.Core.List.{List, [], ◌∷◌, ◌++◌}
use Prim.Native.Nat.{ℕ, zero, suc, ◌+◌, ◌<◌}
use native.Mathlib.Nat.{not-suc-le-zero, le_of_suc-le-suc}
use lib.Dec.{ltb, eqb}
use lib.ListN.{length, get_or}
use borrow.Author.Tests.{eqb-true, eq-eqb, ltb-true}
use Rattle.words.proofs.Tests.{T_true, true_T}
use Rattle.diagram.specs.Diagram.{next, longest, Permits}
use Rattle.diagram.specs.Diagram.{Walk as DWalk, stay as dstay, step as dstep}
use Rattle.diagram.specs.States.{arc, has as dhas, add as dadd, expand as dexpand, list_from as dlistFrom, states as dstates}
use Rattle.diagram.proofs.Listing.{arc_permits, permits_arc}
use Rattle.graphs.specs.Graph.{Graph, Walk, stay, step}
use Rattle.graphs.specs.States.{Tests, Right, has, add, expand, list_from, states}

abbrev pub diagram_graph : ℕ → ℕ → ℕ → Graph
diagram_graph g n cv = record { State = ℕ; first = cv; Permits = Permits g n; next = next cv }

abbrev pub diagram_tests : (g n cv : ℕ) → Tests (diagram_graph g n cv)
diagram_tests g n cv = record { same = eqb; arc = arc g n; longest = longest g n }

pub diagram_right : (g n cv : ℕ) → Right (diagram_graph g n cv) (diagram_tests g n cv)
diagram_right g n cv = record {
  same = λ x y. (eqb-true x y, eq-eqb x y);
  arc = λ s t h k e. arc_permits g n s t h k (true_T e);
  permits = λ s t p. (p.positive, p.small, T_true (arc g n s t) (permits_arc g n s t p));
}

module _ (g n cv : ℕ) where
  -- Walks

  pub walk_there : {s e : ℕ} {l : List ℕ} → DWalk g n cv s l e → Walk (diagram_graph g n cv) s l e
  walk_there dstay = stay
  walk_there (dstep p w) = step p (walk_there w)

  pub walk_back : {s e : ℕ} {l : List ℕ} → Walk (diagram_graph g n cv) s l e → DWalk g n cv s l e
  walk_back stay = dstay
  walk_back (step p w) = dstep p (walk_back w)

  -- The list of states

  has_same : (x : ℕ) (l : List ℕ) → has (diagram_graph g n cv) (diagram_tests g n cv) x l ≡ dhas x l
  has_same x [] = refl
  has_same x (y ∷ l) = ap (λ b. eqb y x || b) (has_same x l)

  add_same : (x : ℕ) (l : List ℕ) → add (diagram_graph g n cv) (diagram_tests g n cv) x l ≡ dadd x l
  add_same x l = ap (λ b. cond b l (l ++ (x ∷ []))) (has_same x l)

  expand_same : (s t m : ℕ) (l : List ℕ) → expand (diagram_graph g n cv) (diagram_tests g n cv) s t m l ≡ dexpand g n cv s t m l
  unfolding expand dexpand
  expand_same s t zero l = refl
  expand_same s t (suc m) l =
      expand_same s (suc t) m (cond (arc g n s t) (add (diagram_graph g n cv) (diagram_tests g n cv) (next cv s t) l) l)
      ∙ ap (λ (k : List ℕ). dexpand g n cv s (suc t) m (cond (arc g n s t) k l)) (add_same (next cv s t) l)

  default : (l : List ℕ) (k d e : ℕ) → k < length l → get_or l k d ≡ get_or l k e
  default [] k d e h = absurd (not-suc-le-zero h)
  default (x ∷ l) zero d e h = refl
  default (x ∷ l) (suc k) d e h = default l k d e (le_of_suc-le-suc h)

  list_same : (f k : ℕ) (l : List ℕ) → list_from (diagram_graph g n cv) (diagram_tests g n cv) f k l ≡ dlistFrom g n cv f k l
  unfolding list_from dlistFrom
  list_same zero k l = refl
  list_same (suc f) k l = go (ltb k (length l)) refl (list_same f (suc k))
    where
      go : (b : Bool) → ltb k (length l) ≡ b
          → ((m : List ℕ) → list_from (diagram_graph g n cv) (diagram_tests g n cv) f (suc k) m ≡ dlistFrom g n cv f (suc k) m)
          → cond b (list_from (diagram_graph g n cv) (diagram_tests g n cv) f (suc k) (expand (diagram_graph g n cv) (diagram_tests g n cv) (get_or l k cv) 1 (longest g n) l)) l
          ≡ cond b (dlistFrom g n cv f (suc k) (dexpand g n cv (get_or l k 0) 1 (longest g n) l)) l
      go true e r =
          r (expand (diagram_graph g n cv) (diagram_tests g n cv) (get_or l k cv) 1 (longest g n) l)
          ∙ ap (dlistFrom g n cv f (suc k)) (expand_same (get_or l k cv) 1 (longest g n) l)
          ∙ ap (λ s. dlistFrom g n cv f (suc k) (dexpand g n cv s 1 (longest g n) l)) (default l k cv 0 (ltb-true k (length l) e))
      go false e r = refl

  pub states_same : (cap : ℕ) → states cap (diagram_graph g n cv) (diagram_tests g n cv) ≡ dstates cap g n cv
  states_same cap = list_same (cap + 1) 0 (cv ∷ [])
