-- What a chart shows: the tasks of the plan's cycle, each where it is. Proved in proofs/Claims.antt.
use Rattle.std.specs.Prelude.{ℕ, ◌+◌, ◌≤◌, ◌<◌, ◌≡◌, true, List, length, Ok, Err}
use Rattle.unit.specs.declared.Plan.{Plan}
use Rattle.unit.specs.declared.FunctionUnit.{FunctionUnit}
use Rattle.unit.specs.declared.Refusal.{Refusal}
use Rattle.unit.specs.declared.Refusal.TheVariants.{ShortOutput, NotGranted}
use Rattle.unit.specs.Unit.{marked, sound_of}
use Rattle.collision.specs.Pipeline.{Cycle, Serves, start_at, task_at}
use Rattle.plan_record.specs.Write.{cycle_in}
use Rattle.planner.specs.Plans.{SearchPromise}
use Rattle.simulator.specs.Claims.{FallsOn, Plays}
use Rattle.chart.specs.Cells.{letter, none, start_cell, segment_cell}
use Rattle.chart.specs.Text.{chart_of}
use Rattle.chart.specs.Answers.{plan_answer, units_answer, chart_answer, simulate_answer, chart_area}

-- Time units are counted from 1, so that the one after n units is n + 1: a task that starts after n units is in its column c in unit n + c.
pub record ChartShows (u : FunctionUnit) (p : Plan) : Type 0 where
  pub plan : plan_answer u p ≡ Ok tt
  pub played : (n : ℕ) → units_answer u p n ≡ Ok tt
  pub start : (k : ℕ) → start_cell u p (start_at (cycle_in p) k) ≡ letter k
  pub quiet : (n : ℕ) → (FallsOn (cycle_in p) n → ⊥) → start_cell u p n ≡ none
  pub busy : (s n k : ℕ) → Serves (marked u) s (n + 1) (task_at p.tag (cycle_in p) k) → segment_cell u p s n ≡ letter k
  pub idle : (s n : ℕ) → ((k : ℕ) → Serves (marked u) s (n + 1) (task_at p.tag (cycle_in p) k) → ⊥) → segment_cell u p s n ≡ none

-- the chart of a plan that plays shows the k-th task by the k-th letter, and nothing else
-- (which plans play: `EveryPlanPlays` and `EverySearchPlays`, crate simulator)
abbrev pub PlaysShown : Type 0
PlaysShown = (u : FunctionUnit) (p : Plan) → Plays u p → ChartShows u p

-- so that after an accepted search of a function its plan is never refused where there is room for the text
abbrev pub SearchCharted : Type 0
SearchCharted =
    (u after : FunctionUnit) (q : ℕ) (before words : List ℕ) → SearchPromise u q before words (Ok tt) after → (n room : ℕ)
    → length (chart_of after after.plan n) ≤ room → simulate_answer after q n room ≡ Ok (length (chart_of after after.plan n))

-- where unit, tag and plan are good, the units are refused by 10 alone
abbrev pub TenAlone : Type 0
TenAlone = (u : FunctionUnit) (p : Plan) (n : ℕ) (why : Refusal) → plan_answer u p ≡ Ok tt → units_answer u p n ≡ Err why → why ≡ NotGranted

-- two tasks of a cycle that are in the unit at one time have different letters
abbrev pub LettersApart : Type 0
LettersApart =
    (u : FunctionUnit) → sound_of u ≡ true → (q : ℕ) (cycle : List ℕ) → Cycle 1 cycle → (r s time j k : ℕ) → j < k
    → Serves (marked u) r time (task_at q cycle j) → Serves (marked u) s time (task_at q cycle k) → letter j ≡ letter k → ⊥

-- no chart of up to 8,192 units is too long for the area
abbrev pub ChartFits : Type 0
ChartFits = (u : FunctionUnit) (p : Plan) (n room : ℕ) → n ≤ 8192 → chart_area ≤ room → chart_answer u p n room ≡ Err ShortOutput → ⊥
