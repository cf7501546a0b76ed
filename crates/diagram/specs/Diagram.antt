-- The state diagram of a collision vector. A state is a word; g is the least interval between two starts (1 in every call of the base).
use Rattle.std.specs.Prelude.{◌≡◌, List, [], ◌∷◌, ℕ, ◌+◌, ◌-◌, ◌/◌, ◌^◌, ◌≤◌, max}
use Rattle.std.specs.Int.Bits.{bit_or}
use Rattle.words.specs.Bits.{bit, is_set}
use Rattle.words.specs.Below.{span_below}

-- n of a collision vector held in a 32-bit word: its largest column with a 1, or 0
abbrev pub width : ℕ → ℕ
width cv = span_below 32 (is_set cv)

-- the state to which the latency t leads from s: shifted right t places, zeros entering, OR the collision vector
abbrev pub next : ℕ → ℕ → ℕ → ℕ
next cv s t = bit_or (s / 2 ^ t) cv

-- the longest latency that has an arc
abbrev pub longest : ℕ → ℕ → ℕ
longest g n = max (n + 1) g

-- the state s permits the latency t: from 1 to n where its column t is 0, and n + 1; none below g
pub record Permits (g n s t : ℕ) : Type 0 where
  pub positive : 1 ≤ t
  pub spaced : g ≤ t
  pub small : t ≤ longest g n
  pub free : t ≤ n → bit s (t - 1) ≡ 0

-- a walk in the state diagram: from a state, along latencies, to a state
pub data Walk (g n cv : ℕ) : ℕ → List ℕ → ℕ → Type 0 where
  stay : {s : ℕ} → Walk g n cv s [] s
  step : {s t e : ℕ} {l : List ℕ} → Permits g n s t → Walk g n cv (next cv s t) l e → Walk g n cv s (t ∷ l) e

-- the first state is the collision vector
pub record Reachable (g n cv s : ℕ) : Type 0 where
  pub along : List ℕ
  pub walk : Walk g n cv cv along s
