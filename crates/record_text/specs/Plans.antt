-- The record of a function's plan, as a session has it written to a file.
use Rattle.std.specs.Prelude.{List, ℕ, length, Result}
use Rattle.unit.specs.declared.FunctionUnit.{FunctionUnit}
use Rattle.unit.specs.Answers.{Answer}
use Rattle.unit.specs.Calls.{and_then}
use Rattle.unit_file.specs.Write.{length_answer, file_in_front}
use Rattle.plan_record.specs.Record.{record_of}
use Rattle.plan_record.specs.Write.{cycle_in, write_refusal}
use Rattle.function_plan.specs.Own.{own_answer}
use Rattle.unit.specs.declared.Refusal.{Refusal}

-- 1 and 2 for the unit and the tag, 8 for a function without a plan, and then the writer's 15 and 6
unfoldable pub plan_record_refusal : FunctionUnit → ℕ → ℕ → Answer
plan_record_refusal u q room = and_then (own_answer u q) (write_refusal u.plan room)

-- the record's length
unfoldable pub plan_record_answer : FunctionUnit → ℕ → ℕ → Result ℕ Refusal
plan_record_answer u q room = length_answer (plan_record_refusal u q room) (length (record_of (cycle_in u.plan)))

-- the record fills the front of the lent bytes, the others stay as before; a refused call changes none
unfoldable pub plan_record_out : FunctionUnit → ℕ → List ℕ → List ℕ
plan_record_out u q bytes = file_in_front (plan_record_refusal u q (length bytes)) (record_of (cycle_in u.plan)) bytes
