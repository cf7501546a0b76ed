-- The tasks that pass through a pipeline, and what it means that they collide.
use Rattle.std.specs.Prelude.{◌≡◌, true, List, [], ◌∷◌, ℕ, zero, suc, ◌+◌, ◌%◌, ◌≤◌, ◌<◌, length, get_or}
use Rattle.unit.specs.Table.{Table}

-- a task of the function `tag`, started at the time `start`
pub record Task : Type 0 where
  pub tag : ℕ
  pub start : ℕ

-- the task occupies the segment in this time unit: it is marked there in the column that many time units after its start
pub record Serves (T : Table) (segment time : ℕ) (x : Task) : Type 0 where
  pub column : ℕ
  pub marked : T x.tag segment column ≡ true
  pub moment : x.start + column ≡ time

-- two tasks occupy one segment in one time unit
pub record Clash (T : Table) (x y : Task) : Type 0 where
  pub segment : ℕ
  pub time : ℕ
  pub one : Serves T segment time x
  pub other : Serves T segment time y

-- a task of q, started t after one of r, would collide with it: some segment has a q mark in a column c and an r mark in column c + t
pub record Collides (T : Table) (q r t : ℕ) : Type 0 where
  pub segment : ℕ
  pub column : ℕ
  pub later : T q segment column ≡ true
  pub earlier : T r segment (column + t) ≡ true

-- t is forbidden for the function q: some segment has two marks t columns apart
abbrev pub Forbidden : Table → ℕ → ℕ → Type 0
Forbidden T q t = Collides T q q t

-- Cycles

-- a cycle is a list of one or more latencies, here of at least g each (1 in every call of the base)
pub record Cycle (g : ℕ) (l : List ℕ) : Type 0 where
  pub nonempty : 0 < length l
  pub each : (i : ℕ) → i < length l → g ≤ get_or l i 0

-- its sum
abbrev pub total : List ℕ → ℕ
total [] = 0
total (t ∷ l) = t + total l

-- repeated without end: its i-th latency, and the time of the i-th start
abbrev pub latency : List ℕ → ℕ → ℕ
latency l i = get_or l (i % length l) 0

abbrev pub start_at : List ℕ → ℕ → ℕ
start_at l zero = 0
start_at l (suc i) = start_at l i + latency l i

abbrev pub task_at : ℕ → List ℕ → ℕ → Task
task_at q l i = record { tag = q; start = start_at l i }

-- no two of its tasks occupy one segment in one time unit
abbrev pub NeverCollides : Table → ℕ → List ℕ → Type 0
NeverCollides T q l = (i j : ℕ) → i < j → Clash T (task_at q l i) (task_at q l j) → ⊥
