-- The lines of a record, and the record of a function's plan, worked out by hand. Assumes nothing.
use Rattle.std.proofs.Common.{Result, Ok, Err}
use mathlib.Core.Path.{◌≡◌, refl, sym, ap, ap₂, ◌∙◌}
use mathlib.Core.List.{List, [], ◌∷◌}
use Prim.Native.Nat.{ℕ, zero, suc, ◌≤◌, ◌<◌}
use native.Mathlib.Omega.{arith}
use lib.ListN.{length, get_or, take, replicate}
use Rattle.words.specs.Below.{some_below, word_below, list_below, join_below}
use Rattle.words.proofs.Tests.{nowhere}
use Rattle.text.specs.Text.{ascii, digits, decimal, spaced, same}
use Rattle.unit.specs.declared.FunctionUnit.{FunctionUnit}
use Rattle.unit.specs.declared.Refusal.TheVariants.{NoSuchTag, NoPlan}
use Rattle.unit.specs.Table.{Table, empty}
use Rattle.unit.specs.Unit.{marked, marks_inside, sound_of}
use Rattle.unit.specs.Calls.{tag_answer}
use Rattle.unit.proofs.EditLaws.{blank_table}
use Rattle.collision.specs.Pipeline.{NeverCollides, total}
use Rattle.plan_record.specs.Record.{recordable, starts, ring_byte, ring_of, record_of}
use Rattle.plan_record.specs.Read.{is_record, record_answer, report_answer, report_list, load_answer, load_ring}
use Rattle.plan_record.specs.Write.{holds_cycle, writable, write_refusal}
use Rattle.planner.specs.Plans.{read_answer}
use Rattle.function_plan.specs.Own.{own_answer}
use Rattle.record_text.specs.Plans.{plan_record_refusal, plan_record_answer, plan_record_out}
use Rattle.record_text.specs.Claims.{RecordedBest}
use Rattle.record_text.specs.Lines.{bits_text, report_line, load_line}
use Rattle.unit.specs.declared.Refusal.{Refusal}

-- the record of 3 4
pub report_of_3_4 : report_line (2 ∷ 0 ∷ 7 ∷ 0 ∷ 8 ∷ 0 ∷ 10 ∷ 0 ∷ 3 ∷ 4 ∷ 246 ∷ []) ≡ ascii "count 2 list 3 4\n"
unfolding report_line report_answer report_list record_answer is_record recordable record_of ring_of ring_byte starts list_below word_below some_below join_below same decimal digits spaced
report_of_3_4 = refl

pub ring_of_3_4 : load_line (2 ∷ 0 ∷ 7 ∷ 0 ∷ 8 ∷ 0 ∷ 10 ∷ 0 ∷ 3 ∷ 4 ∷ 246 ∷ []) ≡ ascii "sum 7 ring 0110111\n"
unfolding load_line load_answer load_ring bits_text record_answer is_record recordable record_of ring_of ring_byte starts list_below word_below some_below same decimal digits
ring_of_3_4 = refl

-- an empty file
pub report_of_none : report_line [] ≡ ascii "refused 15\n"
unfolding report_line report_answer record_answer is_record recordable some_below decimal digits
report_of_none = refl

pub ring_of_none : load_line [] ≡ ascii "refused 15\n"
unfolding load_line load_answer record_answer is_record recordable some_below decimal digits
ring_of_none = refl

-- A unit of two functions without marks, with the plan 3 4 of function 1, or with none

abbrev planned : ℕ → FunctionUnit
planned tag = record {
  functions = 2;
  segments = 1;
  columns = 1;
  marks = replicate 128 0;
  plan = record { tag = tag; count = 2; sum = 7; latencies = 3 ∷ 4 ∷ replicate 254 0 };
}

-- the plan is function 1's, and not function 2's; there is no function 9, and of it 8 says nothing
pub of_1 : plan_record_answer (planned 1) 1 11 ≡ Ok 11
unfolding plan_record_answer plan_record_refusal own_answer tag_answer read_answer sound_of marks_inside marked write_refusal writable holds_cycle recordable record_of ring_of ring_byte starts list_below word_below some_below same
of_1 = refl

pub of_2 : plan_record_answer (planned 1) 2 11 ≡ Err NoPlan
unfolding plan_record_answer plan_record_refusal own_answer tag_answer read_answer sound_of marks_inside marked some_below
of_2 = refl

pub of_9 : plan_record_answer (planned 1) 9 11 ≡ Err NoSuchTag
unfolding plan_record_answer plan_record_refusal own_answer tag_answer sound_of marks_inside marked some_below
of_9 = refl

-- a plan that was dropped, whatever its other fields hold
pub of_none : plan_record_answer (planned 0) 1 11 ≡ Err NoPlan
unfolding plan_record_answer plan_record_refusal own_answer tag_answer read_answer sound_of marks_inside marked some_below
of_none = refl

-- the bytes after the record stay as before
pub left : plan_record_out (planned 1) 1 (replicate 12 9) ≡ 2 ∷ 0 ∷ 7 ∷ 0 ∷ 8 ∷ 0 ∷ 10 ∷ 0 ∷ 3 ∷ 4 ∷ 246 ∷ 9 ∷ []
unfolding plan_record_out plan_record_refusal own_answer tag_answer read_answer sound_of marks_inside marked write_refusal writable holds_cycle recordable record_of ring_of ring_byte starts list_below word_below some_below same
left = refl

-- 3 4 is not best for a function without marks, however well it is written and read: 1 is better

record_of_1 : plan_record_out (planned 1) 1 (replicate 11 9) ≡ 2 ∷ 0 ∷ 7 ∷ 0 ∷ 8 ∷ 0 ∷ 10 ∷ 0 ∷ 3 ∷ 4 ∷ 246 ∷ []
unfolding plan_record_out plan_record_refusal own_answer tag_answer read_answer sound_of marks_inside marked write_refusal writable holds_cycle recordable record_of ring_of ring_byte starts list_below word_below some_below same
record_of_1 = refl

list_of_1 : report_list (2 ∷ 0 ∷ 7 ∷ 0 ∷ 8 ∷ 0 ∷ 10 ∷ 0 ∷ 3 ∷ 4 ∷ 246 ∷ []) ≡ 3 ∷ 4 ∷ []
unfolding report_list record_answer is_record recordable record_of ring_of ring_byte starts list_below word_below some_below same
list_of_1 = refl

no_marks : marked (planned 0) ≡ empty
unfolding marked
no_marks = blank_table 2 1 1

one_never : NeverCollides (marked (planned 0)) 1 (1 ∷ [])
one_never i j h c = nowhere (sym (ap (λ (t : Table). t 1 c.segment c.one.column) no_marks) ∙ c.one.marked)

abbrev length_told : Result ℕ Refusal → ℕ
length_told (Ok n) = n
length_told (Err why) = 0

pub not_best : RecordedBest (planned 0) 1 (planned 1) (replicate 11 9) → ⊥
not_best r =
    let size : r.size ≡ 11 = ap length_told (sym r.written ∙ of_1) in
    let is : r.cycle ≡ 3 ∷ 4 ∷ [] =
    sym r.shown.list ∙ ap₂ (λ (n : ℕ) (b : List ℕ). report_list (take n b)) size record_of_1 ∙ list_of_1
    in
    let least = r.best.least (1 ∷ []) (record { nonempty = omega arith; each = λ i h. first i h }) one_never in
    omega (arith, least, ap total is, ap length is)
  where
    first : (i : ℕ) → i < 1 → 1 ≤ get_or (1 ∷ []) i 0
    first zero h = omega arith
    first (suc i) h = absurd (omega arith)
