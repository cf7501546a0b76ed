-- A plan that was searched for can be recorded, and 8 is for exactly the functions that have none. Assumes nothing.
use Rattle.std.proofs.Common.{Ok, Err}
use Prim.Native.Nat.{ℕ, ◌-◌, ◌≤◌}
use mathlib.Core.Path.{◌≡◌, refl, sym, ap, ◌∙◌, subst, subst₂}
use mathlib.Core.Bool.{true}
use mathlib.Core.Logic.{◌⊎◌, inl, inr}
use mathlib.Core.List.{List}
use native.Mathlib.Omega.{arith}
use lib.ListN.{length, take, replicate}
use lib.Seq.{take-append_seam}
use Rattle.unit.specs.declared.Plan.{Plan}
use Rattle.unit.specs.declared.FunctionUnit.{FunctionUnit}
use Rattle.unit.specs.declared.Refusal.{Refusal}
use Rattle.unit.specs.declared.Refusal.TheVariants.{NoPlan, BadRecord, ShortOutput}
use Rattle.unit.specs.Answers.{Answer}
use Rattle.unit.specs.Numbers.{number_of}
use Rattle.unit.specs.Unit.{inside, sound_of}
use Rattle.unit.specs.Calls.{and_then, tag_answer}
use Rattle.unit.proofs.Laws.{tag_accepted, tag_range}
use Rattle.unit.proofs.EndLaws.{then_both}
use Rattle.unit_file.specs.Write.{length_answer}
use Rattle.plan_record.specs.Record.{record_of, longest_record}
use Rattle.plan_record.specs.Write.{cycle_in, write_refusal, write_answer}
use Rattle.plan_record.specs.Claims.{Shows, GivenPlan}
use Rattle.plan_record.proofs.Claims.{plan_exactly, written_read}
use Rattle.planner.specs.Plans.{plan_of, search_answer, Found}
use Rattle.planner.proofs.EveryList.{found_sound}
use Rattle.record_text.specs.Plans.{plan_record_refusal, plan_record_answer}
use Rattle.function_plan.specs.Own.{own_answer}
use Rattle.function_plan.proofs.Claims.{own_exactly, tag_taken, best_recordable, planned}
use Rattle.record_text.specs.Claims.{RecordedBest, SearchRecorded, EightExactly}
use Rattle.record_text.proofs.RecordLaws.{writer_answer, writer_out}

-- The writer takes its plan

-- an answer that is no refusal of the writer's is the record's length
taken : (p : Plan) (room : ℕ) → (p.tag ≡ 0 → ⊥) → GivenPlan p → longest_record ≤ room → write_answer p room ≡ Ok (length (record_of (cycle_in p)))
unfolding write_answer
taken p room n g h = go (write_refusal p room) refl
  where
    never : (why : Refusal) → write_answer p room ≡ Err why → ⊥
    never why e = by ((plan_exactly p room).numbers why e)
      where
        by : (why ≡ BadRecord) ⊎ (why ≡ ShortOutput) → ⊥
        by (inl z) = no ((plan_exactly p room).fifteen.0 (e ∙ ap Err z))
          where
            no : (p.tag ≡ 0) ⊎ (GivenPlan p → ⊥) → ⊥
            no (inl t) = n t
            no (inr f) = f g
        by (inr z) = (plan_exactly p room).suffices h (e ∙ ap Err z)

    go : (a : Answer) → write_refusal p room ≡ a → length_answer (write_refusal p room) (length (record_of (cycle_in p))) ≡ Ok (length (record_of (cycle_in p)))
    go (Ok _) e = ap (λ (a : Answer). length_answer a (length (record_of (cycle_in p)))) e
    go (Err why) e = absurd (never why (ap (λ (a : Answer). length_answer a (length (record_of (cycle_in p)))) e))

-- The claim

searched : (u after : FunctionUnit) (q : ℕ) → tag_answer u q ≡ Ok tt → Found u q after → (bytes : List ℕ) → longest_record ≤ length bytes → RecordedBest u q after bytes
searched u after q t f bytes room = record {
  size = length (record_of (cycle_in p));
  written = writer_answer after q owns (length bytes) ∙ answer;
  cycle = f.cycle;
  best = f.best;
  shown = subst₂ (λ (x l : List ℕ). Shows x l) (ap (take (length (record_of (cycle_in p)))) (sym (writer_out after q owns bytes))) held
      (written_read p bytes (length (record_of (cycle_in p))) answer).shows;
}
  where
    p : Plan
    p = after.plan

    is : p ≡ plan_of q f.cycle
    is = ap (λ (x : FunctionUnit). x.plan) f.unit

    own : p.tag ≡ q
    own = ap (λ (x : Plan). x.tag) is

    some : q ≡ 0 → ⊥
    some z = omega (arith, (tag_range u q t).least)

    sound : sound_of after ≡ true
    sound = found_sound u q after (tag_accepted u q t).sound f

    member : inside q after.functions ≡ true
    member = ap (λ (x : FunctionUnit). inside q x.functions) f.unit ∙ (tag_accepted u q t).tag

    owns : own_answer after q ≡ Ok tt
    owns = (own_exactly after q (tag_taken after q sound member)).done.1 own

    answer : write_answer p (length bytes) ≡ Ok (length (record_of (cycle_in p)))
    answer = taken p (length bytes) (λ z. some (sym own ∙ z))
        (subst (λ (x : Plan). GivenPlan x) (sym is) (planned q f.cycle (best_recordable u q f.cycle f.few f.best))) room

    held : cycle_in p ≡ f.cycle
    held = ap cycle_in is ∙ take-append_seam f.cycle (replicate (256 - length f.cycle) 0)

pub search_recorded : SearchRecorded
unfolding search_answer
search_recorded u after q before words answer s d bytes room =
    searched u after q (then_both (tag_answer u q) _ (sym s.says ∙ d)).0 (s.found d) bytes room

-- 8

pub eight_exactly : EightExactly
unfolding plan_record_answer plan_record_refusal
eight_exactly u q room t = (never, other)
  where
    other : (u.plan.tag ≡ q → ⊥) → plan_record_answer u q room ≡ Err NoPlan
    other n = ap (λ (a : Answer). length_answer (and_then a (write_refusal u.plan room)) (length (record_of (cycle_in u.plan)))) ((own_exactly u q t).eight.1 n)

    never : plan_record_answer u q room ≡ Err NoPlan → u.plan.tag ≡ q → ⊥
    never e own =
        let w = sym (writer_answer u q ((own_exactly u q t).done.1 own) room) ∙ e in
        by ((plan_exactly u.plan room).numbers NoPlan w)
      where
        by : (NoPlan ≡ BadRecord) ⊎ (NoPlan ≡ ShortOutput) → ⊥
        by (inl z) = let n : ◌≡◌ {A = ℕ} 8 15 = ap number_of z in omega arith
        by (inr z) = let n : ◌≡◌ {A = ℕ} 8 6 = ap number_of z in omega arith
