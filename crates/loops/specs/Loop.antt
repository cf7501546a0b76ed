-- A loop issues the tags of a list, in that order, without end.
use Rattle.std.specs.Prelude.{◌≡◌, true, List, ℕ, ◌*◌, ◌%◌, ◌≤◌, ◌<◌, length, get_or}
use Rattle.unit.specs.declared.FunctionUnit.{FunctionUnit}
use Rattle.unit.specs.Table.{Table}
use Rattle.unit.specs.Unit.{inside}
use Rattle.collision.specs.Pipeline.{Task, Clash, Cycle, start_at}

-- 1 to 8 tags, each of a function of the unit
pub record Loop (u : FunctionUnit) (tags : List ℕ) : Type 0 where
  pub some : 1 ≤ length tags
  pub few : length tags ≤ 8
  pub tag : (i : ℕ) → i < length tags → inside (get_or tags i 0) u.functions ≡ true

-- the tag of task i
abbrev pub tag_at : List ℕ → ℕ → ℕ
tag_at tags i = get_or tags (i % length tags) 0

-- latencies for a loop: one or more, each at least 1, their number a multiple of the list's length; the i-th follows the i-th tag
pub record Schedule (tags l : List ℕ) : Type 0 where
  pub latencies : Cycle 1 l
  pub turns : ℕ
  pub whole : length l ≡ turns * length tags

-- task i of the latencies repeated without end
abbrev pub loop_task : List ℕ → List ℕ → ℕ → Task
loop_task tags l i = record { tag = tag_at tags i; start = start_at l i }

-- no two of the tasks occupy one segment in one time unit
abbrev pub LoopNeverCollides : Table → List ℕ → List ℕ → Type 0
LoopNeverCollides T tags l = (i j : ℕ) → i < j → Clash T (loop_task tags l i) (loop_task tags l j) → ⊥
