-- What the private functions leave. No public contract cites this file.
use Rattle.std.specs.Prelude.{ℕ, ◌≤◌, ◌≡◌, false, List, ◌∷◌, length, get_or}
use Rattle.unit.specs.declared.Plan.{Plan}
use Rattle.unit.specs.declared.FunctionUnit.{FunctionUnit}
use Rattle.unit.specs.declared.Outcome.{Outcome}
use Rattle.unit.specs.Numbers.{number_in}
use Rattle.unit.specs.Calls.{no_plan}
use Rattle.planner.specs.Sheet.{Call, Reply, Step}
use Rattle.player.specs.Play.{plan_bytes, reply_bytes, may_use}

-- what a call that hands out no plan leaves
pub record Told (o : Outcome) (n : ℕ) (p : Plan) (after : FunctionUnit) : Type 0 where
  pub number : n ≡ number_in o.answer
  pub plan : p ≡ no_plan
  pub unit : after ≡ o.unit

-- one call on a unit: its step, and the bytes of its reply
pub record Turned (u : FunctionUnit) (k : Call) (work words : List ℕ) (number : ℕ) (p : Plan) (after : FunctionUnit) : Type 0 where
  pub reply : Reply
  pub step : Step u k reply after
  pub bytes : number ∷ plan_bytes p ≡ reply_bytes reply
  pub room : length words ≡ length work
  pub beyond : (i : ℕ) → 2048 ≤ i → get_or words i 0 ≡ get_or work i 0
  pub kept : may_use k reply ≡ false → words ≡ work
