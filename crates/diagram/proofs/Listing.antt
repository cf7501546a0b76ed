-- The listed states are distinct, are reachable, and, where they are not over the cap, are all that is reachable. Assumes nothing.
use mathlib.Core.Path.{◌≡◌, refl, sym, ap, subst}
use mathlib.Core.Logic.{◌⊎◌, inl, inr}
use mathlib.Core.Bool.{cond, ◌||◌}
use mathlib.Core.List.{List, [], ◌∷◌, ◌++◌}
use Prim.Native.Nat.{ℕ, zero, suc, ◌+◌, ◌-◌, ◌≤◌, ◌<◌, zero-le}
use native.Mathlib.Nat.{le_refl, le_of_suc-le-suc, not-suc-le-zero, lt_of_lt_of_le, eq-or-lt_of_le, zero-lt-suc}
use native.Mathlib.Omega.{arith}
use lib.Dec.{T, leb, ltb, eqb, leb→le, le→leb, eqb→eq, eqb_refl, ltb→lt, nltb→le}
use lib.Arith.{le→nltb}
use lib.ListN.{length, get_or}
use borrow.Author.Tests.{lt-ltb, le-ltb}
use Rattle.words.specs.Bits.{bit}
use Rattle.words.proofs.Tests.{cond_elim, both, and_intro, or_else, or_intro, clash_not}
use Rattle.diagram.specs.Diagram.{next, longest, Permits, Walk, stay, step, Reachable}
use Rattle.diagram.specs.States.{Listed, Each, Distinct, add, arc, expand, list_from, states}
use Rattle.diagram.proofs.ListLaws.{Extends, extends_refl, extends_trans, keep, append_each, one_distinct, add_extends, add_listed, add_each, add_distinct}

-- every arc from the state s leads into l; every arc from a state of l does
abbrev pub Followed : ℕ → ℕ → ℕ → List ℕ → ℕ → Type 0
Followed g n cv l s = (t : ℕ) → Permits g n s t → Listed (next cv s t) l

abbrev pub Closed : ℕ → ℕ → ℕ → List ℕ → Type 0
Closed g n cv l = Each (Followed g n cv l) l

-- Arcs

pub arc_permits : (g n s t : ℕ) → 1 ≤ t → t ≤ longest g n → T (arc g n s t) → Permits g n s t
arc_permits g n s t h k b =
    let p : T (leb g t) × T (ltb n t || eqb (bit s (t - 1)) 0) = both (leb g t) (ltb n t || eqb (bit s (t - 1)) 0) b in
    record {
      positive = h;
      spaced = leb→le g t p.0;
      small = k;
      free = λ l. eqb→eq (bit s (t - 1)) 0 (or_else (ltb n t) (eqb (bit s (t - 1)) 0) p.1 (le→nltb n t l));
    }

pub permits_arc : (g n s t : ℕ) → Permits g n s t → T (arc g n s t)
permits_arc g n s t p =
    and_intro (leb g t) (ltb n t || eqb (bit s (t - 1)) 0) (le→leb g t p.spaced)
    (or_intro (ltb n t) (eqb (bit s (t - 1)) 0) (λ b. rw (p.free (nltb→le n t b)) (eqb_refl 0)))

-- the list after the arc of s for the latency t
abbrev pub visit : ℕ → ℕ → ℕ → ℕ → ℕ → List ℕ → List ℕ
visit g n cv s t l = cond (arc g n s t) (add (next cv s t) l) l

-- the list after all arcs of its k-th state
abbrev pub turn : ℕ → ℕ → ℕ → ℕ → List ℕ → List ℕ
turn g n cv k l = expand g n cv (get_or l k 0) 1 (longest g n) l

module _ (g n cv : ℕ) where
  walk_on : {s e : ℕ} {l : List ℕ} (t : ℕ) → Walk g n cv s l e → Permits g n e t → Walk g n cv s (l ++ (t ∷ [])) (next cv e t)
  walk_on t stay p = step p stay
  walk_on t (step q w) p = step q (walk_on t w p)

  reach : (s t : ℕ) → Reachable g n cv s → Permits g n s t → Reachable g n cv (next cv s t)
  reach s t r p = record { along = r.along ++ (t ∷ []); walk = walk_on t r.walk p }

  -- The arcs of one state

  pub expand_end : (s t : ℕ) (l : List ℕ) → expand g n cv s t 0 l ≡ l
  unfolding expand
  expand_end s t l = refl

  pub expand_more : (s t m : ℕ) (l : List ℕ) → expand g n cv s t (suc m) l ≡ expand g n cv s (suc t) m (visit g n cv s t l)
  unfolding expand
  expand_more s t m l = refl

  pub expand_extends : (s t m : ℕ) (l : List ℕ) → Extends l (expand g n cv s t m l)
  unfolding expand
  expand_extends s t zero l = extends_refl l
  expand_extends s t (suc m) l =
      extends_trans
      (cond_elim (Extends l) (arc g n s t) (add (next cv s t) l) l (λ b. add_extends (next cv s t) l) (λ b. extends_refl l))
      (expand_extends s (suc t) m (visit g n cv s t l))

  expand_distinct : (s t m : ℕ) (l : List ℕ) → Distinct l → Distinct (expand g n cv s t m l)
  unfolding expand
  expand_distinct s t zero l d = d
  expand_distinct s t (suc m) l d =
      expand_distinct s (suc t) m (visit g n cv s t l)
      (cond_elim Distinct (arc g n s t) (add (next cv s t) l) l (λ b. add_distinct (next cv s t) l d) (λ b. d))

  -- what the latencies of s keep, they keep all together
  pub expand_each : (P : ℕ → Type 0) (s t m : ℕ) (l : List ℕ)
      → ((u : ℕ) → t ≤ u → u < t + m → T (arc g n s u) → P (next cv s u)) → Each P l → Each P (expand g n cv s t m l)
  unfolding expand
  expand_each P s t zero l leads f = f
  expand_each P s t (suc m) l leads f =
      expand_each P s (suc t) m (visit g n cv s t l) (λ u h k b. leads u (omega arith) (omega arith) b)
      (cond_elim (Each P) (arc g n s t) (add (next cv s t) l) l
      (λ b. add_each P (next cv s t) l f (leads t (le_refl t) (omega arith) b)) (λ b. f))

  visit_listed : (s t : ℕ) → Permits g n s t → (l : List ℕ) → Listed (next cv s t) (visit g n cv s t l)
  visit_listed s t p l =
      cond_elim (Listed (next cv s t)) (arc g n s t) (add (next cv s t) l) l (λ b. add_listed (next cv s t) l)
      (λ b. absurd (clash_not (arc g n s t) (permits_arc g n s t p) b))

  expand_listed : (s u : ℕ) → Permits g n s u → (t m : ℕ) (l : List ℕ) → t ≤ u → u < t + m → Listed (next cv s u) (expand g n cv s t m l)
  unfolding expand
  expand_listed s u p t zero l h k = absurd (omega arith)
  expand_listed s u p t (suc m) l h k =
      pick (eq-or-lt_of_le h) (λ o. expand_listed s u p (suc t) m (visit g n cv s t l) o (omega arith))
    where
      pick : (t ≡ u) ⊎ (t < u) → (t < u → Listed (next cv s u) (expand g n cv s t (suc m) l)) → Listed (next cv s u) (expand g n cv s t (suc m) l)
      pick (inl e) f =
          keep (expand_extends s (suc t) m (visit g n cv s t l))
          (subst (λ (x : ℕ). Listed (next cv s x) (visit g n cv s t l)) e (visit_listed s t (rw (← e) at p) l))
      pick (inr o) f = f o

  -- The search

  -- it goes on while a state is left to expand, and then ends
  pub list_more : (f k : ℕ) (l : List ℕ) → k < length l → list_from g n cv (suc f) k l ≡ list_from g n cv f (suc k) (turn g n cv k l)
  unfolding list_from
  list_more f k l h = ap (λ b. cond b (list_from g n cv f (suc k) (turn g n cv k l)) l) (lt-ltb k (length l) h)

  pub list_end : (f k : ℕ) (l : List ℕ) → length l ≤ k → list_from g n cv f k l ≡ l
  unfolding list_from
  list_end zero k l h = refl
  list_end (suc f) k l h = ap (λ b. cond b (list_from g n cv f (suc k) (turn g n cv k l)) l) (le-ltb k (length l) h)

  pub list_extends : (f k : ℕ) (l : List ℕ) → Extends l (list_from g n cv f k l)
  unfolding list_from
  list_extends zero k l = extends_refl l
  list_extends (suc f) k l =
      cond_elim (Extends l) (ltb k (length l)) (list_from g n cv f (suc k) (turn g n cv k l)) l
      (λ b. extends_trans (expand_extends (get_or l k 0) 1 (longest g n) l) (list_extends f (suc k) (turn g n cv k l))) (λ b. extends_refl l)

  list_distinct : (f k : ℕ) (l : List ℕ) → Distinct l → Distinct (list_from g n cv f k l)
  unfolding list_from
  list_distinct zero k l d = d
  list_distinct (suc f) k l d =
      cond_elim Distinct (ltb k (length l)) (list_from g n cv f (suc k) (turn g n cv k l)) l
      (λ b. list_distinct f (suc k) (turn g n cv k l) (expand_distinct (get_or l k 0) 1 (longest g n) l d)) (λ b. d)

  -- what every arc keeps holds of every state listed
  list_each : (P : ℕ → Type 0) → ((s t : ℕ) → P s → Permits g n s t → P (next cv s t))
      → (f k : ℕ) (l : List ℕ) → Each P l → Each P (list_from g n cv f k l)
  unfolding list_from
  list_each P leads zero k l r = r
  list_each P leads (suc f) k l r =
      cond_elim (Each P) (ltb k (length l)) (list_from g n cv f (suc k) (turn g n cv k l)) l
      (λ b. list_each P leads f (suc k) (turn g n cv k l)
      (expand_each P (get_or l k 0) 1 (longest g n) l
      (λ u h m a. leads (get_or l k 0) u (r k (ltb→lt k (length l) b)) (arc_permits g n (get_or l k 0) u h (omega arith) a)) r))
      (λ b. r)

  turn_followed : (k : ℕ) (l : List ℕ) → k < length l → ((i : ℕ) → i < k → Followed g n cv l (get_or l i 0))
      → (i : ℕ) → i < suc k → Followed g n cv (turn g n cv k l) (get_or (turn g n cv k l) i 0)
  turn_followed k l h done i o =
      subst (λ (x : ℕ). Followed g n cv (turn g n cv k l) x) (sym (ext.same i (omega arith))) (pick (eq-or-lt_of_le (le_of_suc-le-suc o)))
    where
      ext : Extends l (turn g n cv k l)
      ext = expand_extends (get_or l k 0) 1 (longest g n) l

      here : Followed g n cv (turn g n cv k l) (get_or l k 0)
      here t p = expand_listed (get_or l k 0) t p 1 (longest g n) l p.positive (omega arith)

      pick : (i ≡ k) ⊎ (i < k) → Followed g n cv (turn g n cv k l) (get_or l i 0)
      pick (inl e) = subst (λ (x : ℕ). Followed g n cv (turn g n cv k l) (get_or l x 0)) (sym e) here
      pick (inr m) = λ t p. keep ext (done i m t p)

  -- the first k states are expanded; a search that ends before its fuel has expanded all
  list_closed : (f k : ℕ) (l : List ℕ) → k ≤ length l → ((i : ℕ) → i < k → Followed g n cv l (get_or l i 0))
      → length (list_from g n cv f k l) < k + f → Closed g n cv (list_from g n cv f k l)
  unfolding list_from
  list_closed zero k l h done = λ short. absurd (omega arith)
  list_closed (suc f) k l h done =
      cond_elim (λ m. length m < k + suc f → Closed g n cv m) (ltb k (length l)) (list_from g n cv f (suc k) (turn g n cv k l)) l
      (λ b short. list_closed f (suc k) (turn g n cv k l)
      (lt_of_lt_of_le (ltb→lt k (length l) b) (expand_extends (get_or l k 0) 1 (longest g n) l).longer)
      (turn_followed k l (ltb→lt k (length l) b) done) (omega arith))
      (λ b short i o. done i (omega (arith, nltb→le k (length l) b)))

  -- The list of all states

  module _ (cap : ℕ) where
    pub states_first : Listed cv (states cap g n cv)
    states_first = keep (list_extends (cap + 1) 0 (cv ∷ [])) (record { index = 0; inside = zero-lt-suc 0; found = refl })

    pub states_distinct : Distinct (states cap g n cv)
    states_distinct = list_distinct (cap + 1) 0 (cv ∷ []) (one_distinct cv)

    -- what holds of the first state and along every arc holds of every state listed
    pub states_each : (P : ℕ → Type 0) → P cv → ((s t : ℕ) → P s → Permits g n s t → P (next cv s t)) → Each P (states cap g n cv)
    states_each P first leads =
        list_each P leads (cap + 1) 0 (cv ∷ []) (append_each P [] cv (λ i h. absurd (not-suc-le-zero h)) first)

    pub states_reached : Each (Reachable g n cv) (states cap g n cv)
    states_reached = states_each (Reachable g n cv) (record { along = []; walk = stay }) reach

    pub states_closed : length (states cap g n cv) ≤ cap → Closed g n cv (states cap g n cv)
    states_closed h = list_closed (cap + 1) 0 (cv ∷ []) zero-le (λ i k. absurd (not-suc-le-zero k)) (omega arith)

    pub states_complete : length (states cap g n cv) ≤ cap → (s : ℕ) → Reachable g n cv s → Listed s (states cap g n cv)
    states_complete h s r = follow r.walk states_first
      where
        follow : {a e : ℕ} {l : List ℕ} → Walk g n cv a l e → Listed a (states cap g n cv) → Listed e (states cap g n cv)
        follow stay p = p
        follow (step {s = a} {t = t} q w) p =
            follow w (subst (λ (x : ℕ). Followed g n cv (states cap g n cv) x) p.found (states_closed h p.index p.inside) t q)
