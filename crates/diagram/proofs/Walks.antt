-- The states along a walk. Assumes nothing.
use mathlib.Core.Path.{◌≡◌, refl, sym, ap, ◌∙◌}
use mathlib.Core.Logic.{◌⊎◌, inl, inr}
use mathlib.Core.List.{List, [], ◌∷◌}
use Prim.Native.Nat.{ℕ, zero, suc, ◌%◌, ◌<◌}
use native.Mathlib.Nat.{le_of_suc-le-suc, not-suc-le-zero, eq-or-lt_of_le, mod-lt, suc-mod, mod-eq_of_lt, mod_self, zero-mod}
use native.Mathlib.Omega.{arith}
use lib.ListN.{length, get_or, take}
use lib.Seq.{take-length}
use Rattle.collision.specs.Pipeline.{latency}
use Rattle.words.specs.Bits.{bit}
use Rattle.diagram.specs.Diagram.{next, Permits, Walk, stay, step}
use Rattle.diagram.proofs.StateLaws.{bit_next}

-- every bit of cv is set in s
abbrev pub Contains : ℕ → ℕ → Type 0
Contains cv s = (k : ℕ) → bit cv k ≡ 1 → bit s k ≡ 1

pub next_contains : (cv s t : ℕ) → Contains cv (next cv s t)
next_contains cv s t k h = omega (arith, bit_next cv s t k)

-- the state to which the latencies l lead from s
abbrev pub run : ℕ → ℕ → List ℕ → ℕ
run cv s [] = s
run cv s (t ∷ l) = run cv (next cv s t) l

-- the state before the i-th latency of the cycle l, from s on
abbrev pub state_at : ℕ → ℕ → List ℕ → ℕ → ℕ
state_at cv s l zero = s
state_at cv s l (suc i) = next cv (state_at cv s l i) (latency l i)

run_suc : (cv s : ℕ) (l : List ℕ) (i : ℕ) → i < length l → run cv s (take (suc i) l) ≡ next cv (run cv s (take i l)) (get_or l i 0)
run_suc cv s [] i h = absurd (not-suc-le-zero h)
run_suc cv s (t ∷ l) zero h = refl
run_suc cv s (t ∷ l) (suc i) h = run_suc cv (next cv s t) l i (le_of_suc-le-suc h)

-- a full turn of the cycle leads back to s, so a turn in progress is all that counts
pub state_at_run : (cv s : ℕ) (l : List ℕ) → 0 < length l → run cv s l ≡ s → (j : ℕ) → state_at cv s l j ≡ run cv s (take (j % length l) l)
state_at_run cv s l h e zero = rw zero-mod
state_at_run cv s l h e (suc j) =
    ap (λ (x : ℕ). next cv x (latency l j)) (state_at_run cv s l h e j) ∙ sym (run_suc cv s l (j % length l) (mod-lt j h))
    ∙ turn (eq-or-lt_of_le (mod-lt j h))
  where
    turn : (suc (j % length l) ≡ length l) ⊎ (suc (j % length l) < length l) → run cv s (take (suc (j % length l)) l) ≡ run cv s (take (suc j % length l) l)
    turn (inl p) = rw (suc-mod j (length l), p, mod_self (length l), take-length l) e
    turn (inr k) = rw (suc-mod j (length l), mod-eq_of_lt k)

module _ {g n cv : ℕ} where
  pub walk_contains : {s e : ℕ} {l : List ℕ} → Walk g n cv s l e → Contains cv s → Contains cv e
  walk_contains stay h = h
  walk_contains (step {s = s} {t = t} p w) h = walk_contains w (next_contains cv s t)

  pub walk_run : {s e : ℕ} {l : List ℕ} → Walk g n cv s l e → run cv s l ≡ e
  walk_run stay = refl
  walk_run (step p w) = walk_run w

  pub walk_permits : {s e : ℕ} {l : List ℕ} → Walk g n cv s l e → (i : ℕ) → i < length l → Permits g n (run cv s (take i l)) (get_or l i 0)
  walk_permits stay i h = absurd (not-suc-le-zero h)
  walk_permits (step p w) zero h = p
  walk_permits (step p w) (suc i) h = walk_permits w i (le_of_suc-le-suc h)

  -- a closed walk, repeated without end, goes on being permitted
  pub cycle_permits : {s : ℕ} {l : List ℕ} → Walk g n cv s l s → 0 < length l → (j : ℕ) → Permits g n (state_at cv s l j) (latency l j)
  cycle_permits {s} {l} w h j = rw (state_at_run cv s l h (walk_run w) j) (walk_permits w (j % length l) (mod-lt j h))

module _ (cv s : ℕ) (l : List ℕ) where
  pub state_at_contains : Contains cv s → (j : ℕ) → Contains cv (state_at cv s l j)
  state_at_contains h zero = h
  state_at_contains h (suc j) = next_contains cv (state_at cv s l j) (latency l j)
