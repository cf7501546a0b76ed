-- How writing the record of a function's plan ends. Assumes nothing.
use Rattle.std.proofs.Common.{Result, Ok, Err}
use mathlib.Core.Path.{◌≡◌, sym, ap, ◌∙◌}
use mathlib.Core.List.{List}
use Prim.Native.Nat.{ℕ}
use lib.ListN.{length}
use Rattle.unit.specs.declared.Plan.{Plan}
use Rattle.unit.specs.declared.FunctionUnit.{FunctionUnit}
use Rattle.unit.specs.declared.Refusal.{Refusal}
use Rattle.unit.specs.Answers.{Answer}
use Rattle.unit.specs.Calls.{and_then}
use Rattle.unit_file.specs.Write.{length_answer, file_in_front}
use Rattle.plan_record.specs.Record.{record_of}
use Rattle.plan_record.specs.Write.{cycle_in, write_refusal, write_answer, write_out}
use Rattle.function_plan.specs.Own.{own_answer, own_plan}
use Rattle.function_plan.proofs.Claims.{own_says, own_hands}
use Rattle.record_text.specs.Plans.{plan_record_refusal, plan_record_answer, plan_record_out}

-- what is left is the writer's
module _ (u : FunctionUnit) (q : ℕ) (own : own_answer u q ≡ Ok tt) where
  by_writer : (room : ℕ) → plan_record_refusal u q room ≡ write_refusal u.plan room
  unfolding plan_record_refusal
  by_writer room = ap (λ (a : Answer). and_then a (write_refusal u.plan room)) own

  pub writer_answer : (room : ℕ) → plan_record_answer u q room ≡ write_answer u.plan room
  unfolding plan_record_answer write_answer
  writer_answer room = ap (λ (a : Answer). length_answer a (length (record_of (cycle_in u.plan)))) (by_writer room)

  pub writer_out : (bytes : List ℕ) → plan_record_out u q bytes ≡ write_out u.plan bytes
  unfolding plan_record_out write_out
  writer_out bytes = ap (λ (a : Answer). file_in_front a (record_of (cycle_in u.plan)) bytes) (by_writer (length bytes))

abbrev Ends : FunctionUnit → ℕ → List ℕ → List ℕ → Result ℕ Refusal → Type 0
Ends u q before after r = (r ≡ plan_record_answer u q (length before)) × (after ≡ plan_record_out u q before)

-- by what is handed out as the function's plan
module _ (u : FunctionUnit) (q : ℕ) where
  pub plan_refused : {why : Refusal} (before : List ℕ) → own_plan u q ≡ Err why → Ends u q before before (Err why)
  unfolding plan_record_answer plan_record_out plan_record_refusal
  plan_refused {why} before e =
      let no : plan_record_refusal u q (length before) ≡ Err why =
      ap (λ (a : Answer). and_then a (write_refusal u.plan (length before))) (own_says u q e) in (
        sym (ap (λ (a : Answer). length_answer a (length (record_of (cycle_in u.plan)))) no),
        sym (ap (λ (a : Answer). file_in_front a (record_of (cycle_in u.plan)) before) no),
      )

  pub plan_written : {p : Plan} (before after : List ℕ) (r : Result ℕ Refusal) → own_plan u q ≡ Ok p
      → (r ≡ write_answer p (length before)) × (after ≡ write_out p before) → Ends u q before after r
  plan_written before after r e w =
      let d = own_hands u q e in (
        w.0 ∙ ap (λ (p : Plan). write_answer p (length before)) (sym d.1) ∙ sym (writer_answer u q d.0 (length before)),
        w.1 ∙ ap (λ (p : Plan). write_out p before) (sym d.1) ∙ sym (writer_out u q d.0 before),
      )
