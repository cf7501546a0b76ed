-- The listed states are distinct, are reachable, and, where they are not over the cap, are all that is reachable. Assumes nothing.
use mathlib.Core.Path.{◌≡◌, refl, sym, ap, subst}
use mathlib.Core.Logic.{◌⊎◌, inl, inr}
use mathlib.Core.Bool.{cond}
use mathlib.Core.List.{List, [], ◌∷◌}
use Prim.Native.Nat.{ℕ, zero, suc, ◌+◌, ◌≤◌, ◌<◌, zero-le}
use native.Mathlib.Nat.{le_refl, le_of_suc-le-suc, not-suc-le-zero, lt_of_lt_of_le, eq-or-lt_of_le, zero-lt-suc}
use native.Mathlib.Omega.{arith}
use lib.Dec.{T, ltb, ltb→lt, nltb→le}
use lib.ListN.{length, get_or}
use borrow.Author.Tests.{lt-ltb, le-ltb}
use Rattle.words.proofs.Tests.{cond_elim, clash_not, true_T, T_true}
use Rattle.graphs.specs.Graph.{Graph, Walk, stay, step, Reachable, Listed, Each, Distinct}
use Rattle.graphs.specs.States.{Tests, Right, add, expand, list_from, states}
use Rattle.graphs.proofs.Walks.{reach_first, reach_on}
use Rattle.graphs.proofs.ListLaws.{Extends, extends_refl, extends_trans, keep, append_each, one_distinct, add_extends, add_listed, add_each, add_distinct}

-- every arc from the state s leads into l; every arc from a state of l does
abbrev pub Followed : (G : Graph) → List G.State → G.State → Type 0
Followed G l s = (t : ℕ) → G.Permits s t → Listed G (G.next s t) l

abbrev pub Closed : (G : Graph) → List G.State → Type 0
Closed G l = Each G (Followed G l) l

-- the list after the arc of s for the label t
abbrev pub visit : (G : Graph) → Tests G → G.State → ℕ → List G.State → List G.State
visit G S s t l = cond (S.arc s t) (add G S (G.next s t) l) l

-- the list after all arcs of its k-th state
abbrev pub turn : (G : Graph) → Tests G → ℕ → List G.State → List G.State
turn G S k l = expand G S (get_or l k G.first) 1 S.longest l

module _ (G : Graph) (S : Tests G) where
  -- The code's steps

  pub expand_end : (s : G.State) (t : ℕ) (l : List G.State) → expand G S s t 0 l ≡ l
  unfolding expand
  expand_end s t l = refl

  pub expand_more : (s : G.State) (t m : ℕ) (l : List G.State) → expand G S s t (suc m) l ≡ expand G S s (suc t) m (visit G S s t l)
  unfolding expand
  expand_more s t m l = refl

  -- the search goes on while a state is left to expand, and then ends
  pub list_more : (f k : ℕ) (l : List G.State) → k < length l → list_from G S (suc f) k l ≡ list_from G S f (suc k) (turn G S k l)
  unfolding list_from
  list_more f k l h = ap (λ b. cond b (list_from G S f (suc k) (turn G S k l)) l) (lt-ltb k (length l) h)

  pub list_end : (f k : ℕ) (l : List G.State) → length l ≤ k → list_from G S f k l ≡ l
  unfolding list_from
  list_end zero k l h = refl
  list_end (suc f) k l h = ap (λ b. cond b (list_from G S f (suc k) (turn G S k l)) l) (le-ltb k (length l) h)

module _ (G : Graph) (S : Tests G) (right : Right G S) where
  -- The arcs of one state

  pub expand_extends : (s : G.State) (t m : ℕ) (l : List G.State) → Extends G l (expand G S s t m l)
  unfolding expand
  expand_extends s t zero l = extends_refl G l
  expand_extends s t (suc m) l =
      extends_trans G
      (cond_elim (Extends G l) (S.arc s t) (add G S (G.next s t) l) l (λ b. add_extends G S right (G.next s t) l) (λ b. extends_refl G l))
      (expand_extends s (suc t) m (visit G S s t l))

  expand_distinct : (s : G.State) (t m : ℕ) (l : List G.State) → Distinct G l → Distinct G (expand G S s t m l)
  unfolding expand
  expand_distinct s t zero l d = d
  expand_distinct s t (suc m) l d =
      expand_distinct s (suc t) m (visit G S s t l)
      (cond_elim (Distinct G) (S.arc s t) (add G S (G.next s t) l) l (λ b. add_distinct G S right (G.next s t) l d) (λ b. d))

  -- what the labels of s keep, they keep all together
  pub expand_each : (P : G.State → Type 0) (s : G.State) (t m : ℕ) (l : List G.State)
      → ((u : ℕ) → t ≤ u → u < t + m → T (S.arc s u) → P (G.next s u)) → Each G P l → Each G P (expand G S s t m l)
  unfolding expand
  expand_each P s t zero l leads f = f
  expand_each P s t (suc m) l leads f =
      expand_each P s (suc t) m (visit G S s t l) (λ u h k b. leads u (omega arith) (omega arith) b)
      (cond_elim (Each G P) (S.arc s t) (add G S (G.next s t) l) l
      (λ b. add_each G S right P (G.next s t) l f (leads t (le_refl t) (omega arith) b)) (λ b. f))

  visit_listed : (s : G.State) (t : ℕ) → G.Permits s t → (l : List G.State) → Listed G (G.next s t) (visit G S s t l)
  visit_listed s t p l =
      cond_elim (Listed G (G.next s t)) (S.arc s t) (add G S (G.next s t) l) l (λ b. add_listed G S right (G.next s t) l)
      (λ b. absurd (clash_not (S.arc s t) (true_T (right.permits s t p).2) b))

  expand_listed : (s : G.State) (u : ℕ) → G.Permits s u → (t m : ℕ) (l : List G.State) → t ≤ u → u < t + m → Listed G (G.next s u) (expand G S s t m l)
  unfolding expand
  expand_listed s u p t zero l h k = absurd (omega arith)
  expand_listed s u p t (suc m) l h k =
      pick (eq-or-lt_of_le h) (λ o. expand_listed s u p (suc t) m (visit G S s t l) o (omega arith))
    where
      pick : (t ≡ u) ⊎ (t < u) → (t < u → Listed G (G.next s u) (expand G S s t (suc m) l)) → Listed G (G.next s u) (expand G S s t (suc m) l)
      pick (inl e) f =
          keep G (expand_extends s (suc t) m (visit G S s t l))
          (subst (λ (x : ℕ). Listed G (G.next s x) (visit G S s t l)) e (visit_listed s t (subst (λ (x : ℕ). G.Permits s x) (sym e) p) l))
      pick (inr o) f = f o

  -- The search

  pub list_extends : (f k : ℕ) (l : List G.State) → Extends G l (list_from G S f k l)
  unfolding list_from
  list_extends zero k l = extends_refl G l
  list_extends (suc f) k l =
      cond_elim (Extends G l) (ltb k (length l)) (list_from G S f (suc k) (turn G S k l)) l
      (λ b. extends_trans G (expand_extends (get_or l k G.first) 1 S.longest l) (list_extends f (suc k) (turn G S k l))) (λ b. extends_refl G l)

  list_distinct : (f k : ℕ) (l : List G.State) → Distinct G l → Distinct G (list_from G S f k l)
  unfolding list_from
  list_distinct zero k l d = d
  list_distinct (suc f) k l d =
      cond_elim (Distinct G) (ltb k (length l)) (list_from G S f (suc k) (turn G S k l)) l
      (λ b. list_distinct f (suc k) (turn G S k l) (expand_distinct (get_or l k G.first) 1 S.longest l d)) (λ b. d)

  -- what every arc keeps holds of every state listed
  list_each : (P : G.State → Type 0) → ((s : G.State) (t : ℕ) → P s → G.Permits s t → P (G.next s t))
      → (f k : ℕ) (l : List G.State) → Each G P l → Each G P (list_from G S f k l)
  unfolding list_from
  list_each P leads zero k l r = r
  list_each P leads (suc f) k l r =
      cond_elim (Each G P) (ltb k (length l)) (list_from G S f (suc k) (turn G S k l)) l
      (λ b. list_each P leads f (suc k) (turn G S k l)
      (expand_each P (get_or l k G.first) 1 S.longest l
      (λ u h m a. leads (get_or l k G.first) u (r k (ltb→lt k (length l) b)) (right.arc (get_or l k G.first) u h (omega arith) (T_true (S.arc (get_or l k G.first) u) a))) r))
      (λ b. r)

  turn_followed : (k : ℕ) (l : List G.State) → k < length l → ((i : ℕ) → i < k → Followed G l (get_or l i G.first))
      → (i : ℕ) → i < suc k → Followed G (turn G S k l) (get_or (turn G S k l) i G.first)
  turn_followed k l h done i o =
      subst (λ (x : G.State). Followed G (turn G S k l) x) (sym (ext.same i (omega arith))) (pick (eq-or-lt_of_le (le_of_suc-le-suc o)))
    where
      ext : Extends G l (turn G S k l)
      ext = expand_extends (get_or l k G.first) 1 S.longest l

      here : Followed G (turn G S k l) (get_or l k G.first)
      here t p =
          let a = right.permits (get_or l k G.first) t p in
          let low = a.0 in
          let high = a.1 in
          expand_listed (get_or l k G.first) t p 1 S.longest l low (omega arith)

      pick : (i ≡ k) ⊎ (i < k) → Followed G (turn G S k l) (get_or l i G.first)
      pick (inl e) = subst (λ (x : ℕ). Followed G (turn G S k l) (get_or l x G.first)) (sym e) here
      pick (inr m) = λ t p. keep G ext (done i m t p)

  -- the first k states are expanded; a search that ends before its fuel has expanded all
  list_closed : (f k : ℕ) (l : List G.State) → k ≤ length l → ((i : ℕ) → i < k → Followed G l (get_or l i G.first))
      → length (list_from G S f k l) < k + f → Closed G (list_from G S f k l)
  unfolding list_from
  list_closed zero k l h done = λ short. absurd (omega arith)
  list_closed (suc f) k l h done =
      cond_elim (λ m. length m < k + suc f → Closed G m) (ltb k (length l)) (list_from G S f (suc k) (turn G S k l)) l
      (λ b short. list_closed f (suc k) (turn G S k l)
      (lt_of_lt_of_le (ltb→lt k (length l) b) (expand_extends (get_or l k G.first) 1 S.longest l).longer)
      (turn_followed k l (ltb→lt k (length l) b) done) (omega arith))
      (λ b short i o. done i (omega (arith, nltb→le k (length l) b)))

  -- The list of all states

  module _ (cap : ℕ) where
    pub states_first : Listed G G.first (states cap G S)
    states_first = keep G (list_extends (cap + 1) 0 (G.first ∷ [])) (record { index = 0; inside = zero-lt-suc 0; found = refl })

    pub states_distinct : Distinct G (states cap G S)
    states_distinct = list_distinct (cap + 1) 0 (G.first ∷ []) (one_distinct G G.first)

    -- what holds of the first state and along every arc holds of every state listed
    pub states_each : (P : G.State → Type 0) → P G.first → ((s : G.State) (t : ℕ) → P s → G.Permits s t → P (G.next s t)) → Each G P (states cap G S)
    states_each P first leads =
        list_each P leads (cap + 1) 0 (G.first ∷ []) (append_each G P [] G.first (λ i h. absurd (not-suc-le-zero h)) first)

    pub states_reached : Each G (Reachable G) (states cap G S)
    states_reached = states_each (Reachable G) (reach_first G) (reach_on G)

    pub states_closed : length (states cap G S) ≤ cap → Closed G (states cap G S)
    states_closed h = list_closed (cap + 1) 0 (G.first ∷ []) zero-le (λ i k. absurd (not-suc-le-zero k)) (omega arith)

    pub states_complete : length (states cap G S) ≤ cap → (s : G.State) → Reachable G s → Listed G s (states cap G S)
    states_complete h s r = follow r.walk states_first
      where
        follow : {a e : G.State} {l : List ℕ} → Walk G a l e → Listed G a (states cap G S) → Listed G e (states cap G S)
        follow stay p = p
        follow (step {s = a} {t = t} q w) p =
            follow w (subst (λ (x : G.State). Followed G (states cap G S) x) p.found (states_closed h p.index p.inside) t q)
