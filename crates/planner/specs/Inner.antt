-- What the private functions ask and find. No public contract cites this file.
use Rattle.std.specs.Prelude.{◌≡◌, ℕ, ◌+◌, ◌^◌, ◌≤◌, ◌<◌, List, length, get_or, take, drop, Result, Ok}
use Rattle.unit.specs.declared.Plan.{Plan}
use Rattle.unit.specs.declared.FunctionUnit.{FunctionUnit}
use Rattle.unit.specs.declared.Refusal.{Refusal}
use Rattle.unit.specs.Unit.{marked}
use Rattle.collision.specs.Pipeline.{total}
use Rattle.cycles.specs.Greedy.{WorkAfter}
use Rattle.graphs.specs.Rotation.{rotate}
use Rattle.cycles.specs.Rotation.{first_rotation}
use Rattle.mean_cycle.specs.declared.Cycle.{Cycle}
use Rattle.planner.specs.Plans.{Best, plan_of, answer_of, search_answer}

-- the latencies of a cycle of that many, which stand in the working words from 1536 on
abbrev pub found : List ℕ → ℕ → List ℕ
found w count = take count (drop 1536 w)

-- the rotation of a cycle that comes first
abbrev pub in_first_rotation : List ℕ → List ℕ
in_first_rotation l = rotate l (first_rotation l)

-- they are there, and each fits a byte
pub record Small (w : List ℕ) (count : ℕ) : Type 0 where
  pub room : 1792 ≤ length w
  pub few : count ≤ 256
  pub small : (i : ℕ) → i < count → get_or w (1536 + i) 0 < 2 ^ 8

-- a cycle with its count and its sum stands in the words
pub record Standing (w : List ℕ) (c : Cycle) : Type 0 where
  pub some : 1 ≤ c.count
  pub latencies : Small w c.count
  pub adds : c.sum ≡ total (found w c.count)
  pub low : c.sum < 2 ^ 16

-- the plan of a best cycle
pub record BestPlan (u : FunctionUnit) (q : ℕ) (p : Plan) : Type 0 where
  pub cycle : List ℕ
  pub few : length cycle ≤ 256
  pub best : Best 1 (marked u) q cycle
  pub plan : p ≡ plan_of q cycle

-- what the search before its plan is stored finds
pub record Sought (u : FunctionUnit) (q : ℕ) (before words : List ℕ) (r : Result Plan Refusal) : Type 0 where
  pub says : answer_of r ≡ search_answer u q (length before)
  pub found : (p : Plan) → r ≡ Ok p → BestPlan u q p
  pub work : WorkAfter (answer_of r) before words
