-- What the word and the numbers of a function mean, as facts about its table. Proved of the definitions in proofs/VectorLaws.antt.
use Rattle.std.specs.Prelude.{◌≡◌, true, ◌⊎◌, ℕ, ◌*◌, ◌≤◌, ◌<◌}
use Rattle.words.specs.Below.{count_below}
use Rattle.unit.specs.Table.{Table}
use Rattle.collision.specs.Pipeline.{Forbidden}

-- all marks are in segments up to 16 and in columns 1 to 32, as every unit's are (`marked_bounded`)
pub record Bounded (T : Table) : Type 0 where
  pub segment_lt : (q s c : ℕ) → T q s c ≡ true → s < 17
  pub column_lt : (q s c : ℕ) → T q s c ≡ true → c < 33
  pub column_least : (q s c : ℕ) → T q s c ≡ true → 1 ≤ c

-- n is the largest forbidden latency of q, or 0 (`largest_means`)
pub record IsLargest (T : Table) (q n : ℕ) : Type 0 where
  pub reached : (n ≡ 0) ⊎ Forbidden T q n
  pub most : (t : ℕ) → 1 ≤ t → Forbidden T q t → t ≤ n

-- m is the least latency of q of which no multiple is forbidden, and is at most 32 (`constant_means`)
pub record IsConstant (T : Table) (q m : ℕ) : Type 0 where
  pub least : 1 ≤ m
  pub most : m ≤ 32
  pub allowed : (k : ℕ) → 1 ≤ k → Forbidden T q (k * m) → ⊥
  pub smaller : (j : ℕ) → 1 ≤ j → j < m → (k : ℕ) × (1 ≤ k) × Forbidden T q (k * j)

-- no segment has more than n marks of q, and one has n, if there are any (`marks_means`)
pub record IsMostMarks (T : Table) (q n : ℕ) : Type 0 where
  pub most : (s : ℕ) → count_below 33 (λ c. T q s c) ≤ n
  pub reached : 0 < n → (s : ℕ) × (count_below 33 (λ c. T q s c) ≡ n)
