-- A plan that was searched for can be recorded, and 8 is for exactly the functions that have none. Proved in proofs/Claims.antt.
use Rattle.std.specs.Prelude.{◌≡◌, ◌↔◌, List, ℕ, ◌≤◌, length, take, Ok, Err}
use Rattle.unit.specs.declared.FunctionUnit.{FunctionUnit}
use Rattle.unit.specs.declared.Refusal.TheVariants.{NoPlan}
use Rattle.unit.specs.Answers.{Answer}
use Rattle.unit.specs.Unit.{marked}
use Rattle.unit.specs.Calls.{tag_answer}
use Rattle.plan_record.specs.Record.{longest_record}
use Rattle.plan_record.specs.Claims.{Shows}
use Rattle.planner.specs.Plans.{Best, SearchPromise}
use Rattle.record_text.specs.Plans.{plan_record_answer, plan_record_out}

-- the record of a best cycle of the function stands in front of the lent bytes, and both readers show that cycle
pub record RecordedBest (u : FunctionUnit) (q : ℕ) (after : FunctionUnit) (bytes : List ℕ) : Type 0 where
  pub size : ℕ
  pub written : plan_record_answer after q (length bytes) ≡ Ok size
  pub cycle : List ℕ
  pub best : Best 1 (marked u) q cycle
  pub shown : Shows (take size (plan_record_out after q bytes)) cycle

-- after an accepted search of a function its plan is never refused where there is room for the longest record
abbrev pub SearchRecorded : Type 0
SearchRecorded =
    (u after : FunctionUnit) (q : ℕ) (before words : List ℕ) (answer : Answer) → SearchPromise u q before words answer after → answer ≡ Ok tt
    → (bytes : List ℕ) → longest_record ≤ length bytes → RecordedBest u q after bytes

-- of a function of the unit, 8 says that the unit's plan is not its own, and nothing else does
abbrev pub EightExactly : Type 0
EightExactly =
    (u : FunctionUnit) (q room : ℕ) → tag_answer u q ≡ Ok tt → (plan_record_answer u q room ≡ Err NoPlan) ↔ (u.plan.tag ≡ q → ⊥)
