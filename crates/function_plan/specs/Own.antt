-- The plan of a function: what the unit holds, if it is the function's own.
use Rattle.std.specs.Prelude.{ℕ, eqb, Result, Ok}
use Rattle.unit.specs.declared.FunctionUnit.{FunctionUnit}
use Rattle.unit.specs.declared.Plan.{Plan}
use Rattle.unit.specs.declared.Refusal.{Refusal}
use Rattle.unit.specs.declared.Refusal.TheVariants.{NoPlan}
use Rattle.unit.specs.Answers.{Answer}
use Rattle.unit.specs.Calls.{check, and_then, tag_answer}
use Rattle.planner.specs.Plans.{read_answer, handing}

-- 1 and 2 for the unit and the tag; then 8 for a unit without a plan, as a read has it, and for the plan of another function
unfoldable pub own_answer : FunctionUnit → ℕ → Answer
own_answer u q = and_then (tag_answer u q) (and_then (read_answer u) (check (eqb u.plan.tag q) NoPlan (Ok tt)))

-- the plan by value; none where the call is refused
unfoldable pub own_plan : FunctionUnit → ℕ → Result Plan Refusal
own_plan u q = handing (own_answer u q) u.plan
