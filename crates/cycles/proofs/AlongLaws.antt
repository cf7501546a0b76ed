-- Walks cut and joined, and the states along them. Assumes nothing.
use mathlib.Core.Path.{◌≡◌, refl, ap}
use mathlib.Core.List.{List, [], ◌∷◌, ◌++◌}
use Prim.Native.Nat.{ℕ, zero, suc, ◌<◌}
use native.Mathlib.Nat.{le_of_suc-le-suc, not-suc-le-zero}
use lib.ListN.{length, get_or, take, drop}
use Rattle.diagram.specs.Diagram.{next, Walk, stay, step, Reachable}
use Rattle.diagram.proofs.Walks.{run}
use Rattle.diagram.specs.Cycles.{states_along}

-- The states along latencies

pub along_length : (cv s : ℕ) (l : List ℕ) → length (states_along cv s l) ≡ length l
along_length cv s [] = refl
along_length cv s (t ∷ l) = ap suc (along_length cv (next cv s t) l)

pub along_at : (cv s : ℕ) (l : List ℕ) (i : ℕ) → i < length l → get_or (states_along cv s l) i 0 ≡ run cv s (take i l)
along_at cv s [] i h = absurd (not-suc-le-zero h)
along_at cv s (t ∷ l) zero h = refl
along_at cv s (t ∷ l) (suc i) h = along_at cv (next cv s t) l i (le_of_suc-le-suc h)

pub along_append : (cv s : ℕ) (a b : List ℕ) → states_along cv s (a ++ b) ≡ states_along cv s a ++ states_along cv (run cv s a) b
along_append cv s [] b = refl
along_append cv s (t ∷ a) b = ap (λ l. s ∷ l) (along_append cv (next cv s t) a b)

pub along_take : (cv s r : ℕ) (l : List ℕ) → states_along cv s (take r l) ≡ take r (states_along cv s l)
along_take cv s zero l = refl
along_take cv s (suc r) [] = refl
along_take cv s (suc r) (t ∷ l) = ap (λ k. s ∷ k) (along_take cv (next cv s t) r l)

pub along_drop : (cv s r : ℕ) (l : List ℕ) → states_along cv (run cv s (take r l)) (drop r l) ≡ drop r (states_along cv s l)
along_drop cv s zero l = refl
along_drop cv s (suc r) [] = refl
along_drop cv s (suc r) (t ∷ l) = along_drop cv (next cv s t) r l

-- Walks

module _ {g n cv : ℕ} where
  pub walk_join : {s m e : ℕ} {a b : List ℕ} → Walk g n cv s a m → Walk g n cv m b e → Walk g n cv s (a ++ b) e
  walk_join stay w = w
  walk_join (step p v) w = step p (walk_join v w)

  pub walk_take : {s e : ℕ} {l : List ℕ} (r : ℕ) → Walk g n cv s l e → Walk g n cv s (take r l) (run cv s (take r l))
  walk_take zero w = stay
  walk_take (suc r) stay = stay
  walk_take {s = s} (suc r) (step {t = t} p w) = step p (walk_take {s = next cv s t} r w)

  pub walk_drop : {s e : ℕ} {l : List ℕ} (r : ℕ) → Walk g n cv s l e → Walk g n cv (run cv s (take r l)) (drop r l) e
  walk_drop zero w = w
  walk_drop (suc r) stay = stay
  walk_drop {s = s} (suc r) (step {t = t} p w) = walk_drop {s = next cv s t} r w

  pub reach_on : {s e : ℕ} {l : List ℕ} → Reachable g n cv s → Walk g n cv s l e → Reachable g n cv e
  reach_on {l = l} r w = record { along = r.along ++ l; walk = walk_join r.walk w }
