-- Lists of states: what is listed, a list that begins with another, a state added unless it is there. Assumes nothing.
use mathlib.Core.Path.{◌≡◌, refl, sym, ◌∙◌}
use mathlib.Core.List.{List, [], ◌∷◌, ◌++◌}
use Prim.Native.Nat.{ℕ, zero, suc, ◌≤◌, ◌<◌, suc-le-suc}
use native.Mathlib.Nat.{le_refl, le_trans, le_of_suc-le-suc, not-suc-le-zero, lt_of_lt_of_le, zero-lt-suc}
use native.Mathlib.Decide.{dec_lt}
use native.Mathlib.Omega.{arith}
use lib.Dec.{T}
use lib.ListN.{length, get_or, length-append, get_or-append}
use lib.Seq.{get_or-append_seam, get_or_at}
use Rattle.words.proofs.Tests.{cond_elim, or_elim, or_left, or_right, clash_not, true_T, T_true}
use Rattle.graphs.specs.Graph.{Graph, Listed, Each, Distinct}
use Rattle.graphs.specs.States.{Tests, Right, has, add}

-- m begins with l
pub record Extends (G : Graph) (l m : List G.State) : Type 0 where
  pub longer : length l ≤ length m
  pub same : (i : ℕ) → i < length l → get_or m i G.first ≡ get_or l i G.first

module _ (G : Graph) where
  pub extends_refl : (l : List G.State) → Extends G l l
  extends_refl l = record { longer = le_refl (length l); same = λ i h. refl }

  pub extends_trans : {l m r : List G.State} → Extends G l m → Extends G m r → Extends G l r
  extends_trans p q = record {
    longer = le_trans p.longer q.longer;
    same = λ i h. q.same i (lt_of_lt_of_le h p.longer) ∙ p.same i h;
  }

  pub keep : {x : G.State} {l m : List G.State} → Extends G l m → Listed G x l → Listed G x m
  keep p r = record {
    index = r.index;
    inside = lt_of_lt_of_le r.inside p.longer;
    found = p.same r.index r.inside ∙ r.found;
  }

  append_extends : (l : List G.State) (x : G.State) → Extends G l (l ++ (x ∷ []))
  append_extends l x = record { longer = rw length-append (omega arith); same = λ i h. get_or-append l (x ∷ []) G.first i h }

  -- A state at the end

  pub append_each : (P : G.State → Type 0) (l : List G.State) (x : G.State) → Each G P l → P x → Each G P (l ++ (x ∷ []))
  append_each P [] x f p zero h = p
  append_each P [] x f p (suc i) h = absurd (not-suc-le-zero (le_of_suc-le-suc h))
  append_each P (y ∷ l) x f p zero h = f 0 (zero-lt-suc (length l))
  append_each P (y ∷ l) x f p (suc i) h = append_each P l x (λ j k. f (suc j) (suc-le-suc k)) p i (le_of_suc-le-suc h)

  append_distinct : (l : List G.State) (x : G.State) → Distinct G l → ((i : ℕ) → i < length l → get_or l i G.first ≡ x → ⊥) → Distinct G (l ++ (x ∷ []))
  append_distinct l x d f i j h k e = pick (dec_lt j (length l))
    where
      pick : Dec (j < length l) → ⊥
      pick (yes m) = d i j h m (sym (get_or-append l (x ∷ []) G.first i (omega arith)) ∙ e ∙ get_or-append l (x ∷ []) G.first j m)
      pick (no m) =
          let last : length l ≡ j = omega (arith, length-append l (x ∷ [])) in
          f i (omega arith) (sym (get_or-append l (x ∷ []) G.first i (omega arith)) ∙ e ∙ get_or_at l x [] G.first j last)

  pub one_distinct : (x : G.State) → Distinct G (x ∷ [])
  one_distinct x i j h k e = omega arith

  module _ (S : Tests G) (right : Right G S) where
    -- What is listed

    pub has_listed : (x : G.State) (l : List G.State) → T (has G S x l) → Listed G x l
    has_listed x [] h = absurd h
    has_listed x (y ∷ l) h =
        or_elim (S.same y x) (has G S x l) h (λ e. record { index = 0; inside = zero-lt-suc (length l); found = (right.same y x).0 (T_true (S.same y x) e) })
        (λ e. deeper (has_listed x l e))
      where
        deeper : Listed G x l → Listed G x (y ∷ l)
        deeper r = record { index = suc r.index; inside = suc-le-suc r.inside; found = r.found }

    pub listed_has : (x : G.State) (l : List G.State) (i : ℕ) → i < length l → get_or l i G.first ≡ x → T (has G S x l)
    listed_has x [] i h e = not-suc-le-zero h
    listed_has x (y ∷ l) zero h e = or_left (S.same y x) (has G S x l) (true_T ((right.same y x).1 e))
    listed_has x (y ∷ l) (suc i) h e = or_right (S.same y x) (has G S x l) (listed_has x l i (le_of_suc-le-suc h) e)

    -- A state added unless it is there

    pub add_extends : (x : G.State) (l : List G.State) → Extends G l (add G S x l)
    add_extends x l = cond_elim (Extends G l) (has G S x l) l (l ++ (x ∷ [])) (λ b. extends_refl l) (λ b. append_extends l x)

    pub add_listed : (x : G.State) (l : List G.State) → Listed G x (add G S x l)
    add_listed x l =
        cond_elim (Listed G x) (has G S x l) l (l ++ (x ∷ [])) (has_listed x l)
        (λ b. record { index = length l; inside = rw length-append (omega arith); found = get_or-append_seam l x [] G.first })

    pub add_each : (P : G.State → Type 0) (x : G.State) (l : List G.State) → Each G P l → P x → Each G P (add G S x l)
    add_each P x l f p = cond_elim (Each G P) (has G S x l) l (l ++ (x ∷ [])) (λ b. f) (λ b. append_each P l x f p)

    pub add_distinct : (x : G.State) (l : List G.State) → Distinct G l → Distinct G (add G S x l)
    add_distinct x l d =
        cond_elim (Distinct G) (has G S x l) l (l ++ (x ∷ [])) (λ b. d)
        (λ b. append_distinct l x d (λ i h e. clash_not (has G S x l) (listed_has x l i h e) b))
