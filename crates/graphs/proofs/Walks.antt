-- The states along a walk, and a closed walk repeated without end. Assumes nothing.
use mathlib.Core.Path.{◌≡◌, refl, sym, ap, ◌∙◌, subst}
use mathlib.Core.Logic.{◌⊎◌, inl, inr}
use mathlib.Core.List.{List, [], ◌∷◌, ◌++◌}
use Prim.Native.Nat.{ℕ, zero, suc, ◌+◌, ◌%◌, ◌<◌}
use native.Mathlib.Nat.{le_of_suc-le-suc, not-suc-le-zero, eq-or-lt_of_le, mod-lt, suc-mod, mod-eq_of_lt, mod_self, zero-mod}
use lib.ListN.{length, get_or, take, drop}
use lib.Seq.{take-length}
use Rattle.collision.specs.Pipeline.{latency}
use Rattle.graphs.specs.Graph.{Graph, Walk, stay, step, Reachable}

-- the state to which the labels l lead from s
abbrev pub run : (G : Graph) → G.State → List ℕ → G.State
run G s [] = s
run G s (t ∷ l) = run G (G.next s t) l

-- the state before the i-th label of the cycle l, from s on
abbrev pub state_at : (G : Graph) → G.State → List ℕ → ℕ → G.State
state_at G s l zero = s
state_at G s l (suc i) = G.next (state_at G s l i) (latency l i)

module _ (G : Graph) where
  pub run_suc : (s : G.State) (l : List ℕ) (i : ℕ) → i < length l → run G s (take (suc i) l) ≡ G.next (run G s (take i l)) (get_or l i 0)
  run_suc s [] i h = absurd (not-suc-le-zero h)
  run_suc s (t ∷ l) zero h = refl
  run_suc s (t ∷ l) (suc i) h = run_suc (G.next s t) l i (le_of_suc-le-suc h)

  -- a full turn of the cycle leads back to s, so a turn in progress is all that counts
  pub state_at_run : (s : G.State) (l : List ℕ) → 0 < length l → run G s l ≡ s → (j : ℕ) → state_at G s l j ≡ run G s (take (j % length l) l)
  state_at_run s l h e zero = rw zero-mod
  state_at_run s l h e (suc j) =
      ap (λ (x : G.State). G.next x (latency l j)) (state_at_run s l h e j) ∙ sym (run_suc s l (j % length l) (mod-lt j h))
      ∙ turn (eq-or-lt_of_le (mod-lt j h))
    where
      turn : (suc (j % length l) ≡ length l) ⊎ (suc (j % length l) < length l) → run G s (take (suc (j % length l)) l) ≡ run G s (take (suc j % length l) l)
      turn (inl p) = rw (suc-mod j (length l), p, mod_self (length l), take-length l) e
      turn (inr k) = rw (suc-mod j (length l), mod-eq_of_lt k)

  pub walk_run : {s e : G.State} {l : List ℕ} → Walk G s l e → run G s l ≡ e
  walk_run stay = refl
  walk_run (step p w) = walk_run w

  pub walk_permits : {s e : G.State} {l : List ℕ} → Walk G s l e → (i : ℕ) → i < length l → G.Permits (run G s (take i l)) (get_or l i 0)
  walk_permits stay i h = absurd (not-suc-le-zero h)
  walk_permits (step p w) zero h = p
  walk_permits (step p w) (suc i) h = walk_permits w i (le_of_suc-le-suc h)

  -- a closed walk, repeated without end, goes on being permitted
  pub cycle_permits : {s : G.State} {l : List ℕ} → Walk G s l s → 0 < length l → (j : ℕ) → G.Permits (state_at G s l j) (latency l j)
  cycle_permits {s} {l} w h j =
      subst (λ (x : G.State). G.Permits x (latency l j)) (sym (state_at_run s l h (walk_run w) j)) (walk_permits w (j % length l) (mod-lt j h))

  -- what every arc keeps holds at the end of a walk
  pub walk_keeps : (P : G.State → Type 0) → ((s : G.State) (t : ℕ) → P s → G.Permits s t → P (G.next s t))
      → {s e : G.State} {l : List ℕ} → Walk G s l e → P s → P e
  walk_keeps P keeps stay h = h
  walk_keeps P keeps (step {s} {e} {t} p w) h = walk_keeps P keeps w (keeps s t h p)

  pub reach_keeps : (P : G.State → Type 0) → P G.first → ((s : G.State) (t : ℕ) → P s → G.Permits s t → P (G.next s t))
      → {s : G.State} → Reachable G s → P s
  reach_keeps P first keeps r = walk_keeps P keeps r.walk first

  -- Walks one after the other, and parts of a walk

  pub walk_join : {s m e : G.State} {l k : List ℕ} → Walk G s l m → Walk G m k e → Walk G s (l ++ k) e
  walk_join stay v = v
  walk_join (step p w) v = step p (walk_join w v)

  pub walk_on : {s e : G.State} {l : List ℕ} (t : ℕ) → Walk G s l e → G.Permits e t → Walk G s (l ++ (t ∷ [])) (G.next e t)
  walk_on t w p = walk_join w (step p stay)

  pub reach_first : Reachable G G.first
  reach_first = record { along = []; walk = stay }

  pub reach_on : (s : G.State) (t : ℕ) → Reachable G s → G.Permits s t → Reachable G (G.next s t)
  reach_on s t r p = record { along = r.along ++ (t ∷ []); walk = walk_on t r.walk p }

  pub reach_along : {s e : G.State} {l : List ℕ} → Reachable G s → Walk G s l e → Reachable G e
  reach_along {l = l} r w = record { along = r.along ++ l; walk = walk_join r.walk w }

  pub walk_take : (k : ℕ) {s e : G.State} {l : List ℕ} → Walk G s l e → Walk G s (take k l) (run G s (take k l))
  walk_take zero w = stay
  walk_take (suc k) stay = stay
  walk_take (suc k) (step p w) = step p (walk_take k w)

  pub walk_drop : (k : ℕ) {s e : G.State} {l : List ℕ} → Walk G s l e → Walk G (run G s (take k l)) (drop k l) e
  walk_drop zero w = w
  walk_drop (suc k) stay = stay
  walk_drop (suc k) (step p w) = walk_drop k w
