-- What is claimed of loops beyond the contract of the call.
use Rattle.std.specs.Prelude.{◌≡◌, true, List, [], ◌∷◌, ◌↔◌, ℕ, ◌*◌, ◌≤◌, length, Err}
use Rattle.unit.specs.declared.FunctionUnit.{FunctionUnit}
use Rattle.unit.specs.declared.Refusal.TheVariants.{TooManyStates}
use Rattle.unit.specs.Unit.{marked, sound_of}
use Rattle.collision.specs.Pipeline.{total}
use Rattle.planner.specs.Plans.{Best}
use Rattle.graphs.specs.States.{More}
use Rattle.loops.specs.Loop.{Loop}
use Rattle.loops.specs.Steps.{loop_graph}
use Rattle.loops.specs.Best.{BestLoop}
use Rattle.loops.specs.Answers.{loop_answer}

-- what the tests before 7 ask
pub record Asked (u : FunctionUnit) (tags : List ℕ) (room : ℕ) : Type 0 where
  pub sound : sound_of u ≡ true
  pub loop : Loop u tags
  pub enough : 16000 ≤ room

-- 7 is answered exactly where no test before it applies and more than 256 states are reached by steps, of any number of ticks
abbrev pub SevenExactly : Type 0
SevenExactly = (u : FunctionUnit) (tags : List ℕ) (room : ℕ)
    → (loop_answer u tags room ≡ Err TooManyStates) ↔ (Asked u tags room × More 256 (loop_graph u tags))

-- which of several loops is given does not show in the average
abbrev pub OneAverage : Type 0
OneAverage = (u : FunctionUnit) (tags a b : List ℕ) → BestLoop u tags a → BestLoop u tags b → total a * length b ≡ total b * length a

-- a list of one tag has the average of that function's best cycle
abbrev pub OneTag : Type 0
OneTag = (u : FunctionUnit) (q : ℕ) (l cycle : List ℕ) → BestLoop u (q ∷ []) l → Best 1 (marked u) q cycle
    → total l * length cycle ≡ total cycle * length l
