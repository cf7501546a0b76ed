-- Records worked out by hand, and what is none. Assumes nothing.
use Rattle.std.proofs.Common.{Ok, Err}
use Prim.Native.Nat.{ℕ, ◌≤◌}
use mathlib.Core.Path.{◌≡◌, refl, sym, ap, ◌∙◌}
use mathlib.Core.Bool.{false}
use mathlib.Core.Logic.{inl}
use mathlib.Core.List.{List, [], ◌∷◌, ◌++◌}
use native.Mathlib.Omega.{arith}
use lib.ListN.{length, take, replicate, length-append, get_or-replicate}
use lib.Seq.{take_at}
use Rattle.words.specs.Below.{some_below, word_below, list_below}
use Rattle.words.proofs.Tests.{nowhere}
use Rattle.text.specs.Text.{same}
use Rattle.unit.specs.declared.Plan.{Plan}
use Rattle.unit.specs.declared.Refusal.TheVariants.{BadRecord, ShortOutput}
use Rattle.plan_record.specs.Record.{Recordable, recordable, starts, ring_byte, ring_of, IsRing, record_of, longest_record}
use Rattle.plan_record.specs.Read.{is_record, record_answer, report_answer, report_list, load_answer, load_ring, intervals_below, list_from_ring, ring_from_list}
use Rattle.plan_record.specs.Write.{holds_cycle, writable, write_refusal, write_answer, write_out}
use Rattle.plan_record.specs.Claims.{GivenBytes, SameShown, GivenPlan, ReadBack}
use Rattle.plan_record.proofs.ReadLaws.{number_not}
use Rattle.plan_record.proofs.RecordLaws.{record_length}
use Rattle.plan_record.proofs.Claims.{given, tested, given_holds, no_longer, accepted_exactly}

-- The record of 3 4

abbrev bytes : List ℕ
bytes = 2 ∷ 0 ∷ 7 ∷ 0 ∷ 8 ∷ 0 ∷ 10 ∷ 0 ∷ 3 ∷ 4 ∷ 246 ∷ []

-- bytes 02 00 07 00 08 00 0A 00 03 04 F6
pub three_four : record_of (3 ∷ 4 ∷ []) ≡ 2 ∷ 0 ∷ 7 ∷ 0 ∷ 8 ∷ 0 ∷ 10 ∷ 0 ∷ 3 ∷ 4 ∷ 246 ∷ []
unfolding record_of ring_of ring_byte starts list_below word_below some_below
three_four = refl

-- K and the list, S and the ring
pub three_four_report : (report_answer bytes ≡ Ok 2) × (report_list bytes ≡ 3 ∷ 4 ∷ [])
unfolding report_answer report_list record_answer is_record recordable record_of ring_of ring_byte starts list_below word_below some_below same
three_four_report = (refl, refl)

pub three_four_load : (load_answer bytes ≡ Ok 7) × (load_ring bytes ≡ 246 ∷ [])
unfolding load_answer load_ring record_answer is_record recordable record_of ring_of ring_byte starts list_below word_below some_below same
three_four_load = (refl, refl)

-- some cycle gives these bytes
pub three_four_given : GivenBytes bytes
unfolding is_record recordable record_of ring_of ring_byte starts list_below word_below some_below same
three_four_given = given bytes refl

-- each from the other
pub three_four_list : list_from_ring 7 (246 ∷ []) ≡ 3 ∷ 4 ∷ []
unfolding list_from_ring intervals_below
three_four_list = refl

pub three_four_ring : ring_from_list 2 (3 ∷ 4 ∷ []) ≡ 246 ∷ []
unfolding ring_of ring_byte starts list_below word_below some_below
three_four_ring = refl

-- no spare bit: 8; and one: seven times 1, and 8
pub eight : (record_of (8 ∷ []) ≡ 1 ∷ 0 ∷ 8 ∷ 0 ∷ 8 ∷ 0 ∷ 9 ∷ 0 ∷ 8 ∷ 254 ∷ []) × (ring_of (1 ∷ 1 ∷ 1 ∷ 1 ∷ 1 ∷ 1 ∷ 1 ∷ 8 ∷ []) ≡ 0 ∷ 255 ∷ [])
unfolding record_of ring_of ring_byte starts list_below word_below some_below
eight = (refl, refl)

-- What is no record

-- the last byte for another one
abbrev ended : List ℕ → List ℕ
ended rest = 2 ∷ 0 ∷ 7 ∷ 0 ∷ 8 ∷ 0 ∷ 10 ∷ 0 ∷ 3 ∷ 4 ∷ rest

no_given : (b : List ℕ) → is_record b ≡ false → GivenBytes b → ⊥
no_given b e g = nowhere (sym e ∙ tested b g)

-- the spare bit 0; the bits of the ring from the other end; a byte after the record; no ring; no byte at all
pub no_spare : GivenBytes (ended (118 ∷ [])) → ⊥
unfolding is_record recordable record_of ring_of ring_byte starts list_below word_below some_below same
no_spare = no_given (ended (118 ∷ [])) refl

pub no_reversed : GivenBytes (ended (111 ∷ [])) → ⊥
unfolding is_record recordable record_of ring_of ring_byte starts list_below word_below some_below same
no_reversed = no_given (ended (111 ∷ [])) refl

pub no_after : GivenBytes (ended (246 ∷ 0 ∷ [])) → ⊥
unfolding is_record recordable record_of ring_of ring_byte starts list_below word_below some_below same
no_after = no_given (ended (246 ∷ 0 ∷ [])) refl

pub no_short : GivenBytes (ended []) → ⊥
unfolding is_record recordable record_of ring_of ring_byte starts list_below word_below some_below same
no_short = no_given (ended []) refl

pub no_bytes : GivenBytes [] → ⊥
unfolding is_record recordable record_of ring_of ring_byte starts list_below word_below some_below same
no_bytes = no_given [] refl

-- S of 8; the list at 9; the ring at 11; a latency of 0
pub no_sum : GivenBytes (2 ∷ 0 ∷ 8 ∷ 0 ∷ 8 ∷ 0 ∷ 10 ∷ 0 ∷ 3 ∷ 4 ∷ 246 ∷ []) → ⊥
unfolding is_record recordable record_of ring_of ring_byte starts list_below word_below some_below same
no_sum = no_given (2 ∷ 0 ∷ 8 ∷ 0 ∷ 8 ∷ 0 ∷ 10 ∷ 0 ∷ 3 ∷ 4 ∷ 246 ∷ []) refl

pub no_list : GivenBytes (2 ∷ 0 ∷ 7 ∷ 0 ∷ 9 ∷ 0 ∷ 10 ∷ 0 ∷ 3 ∷ 4 ∷ 246 ∷ []) → ⊥
unfolding is_record recordable record_of ring_of ring_byte starts list_below word_below some_below same
no_list = no_given (2 ∷ 0 ∷ 7 ∷ 0 ∷ 9 ∷ 0 ∷ 10 ∷ 0 ∷ 3 ∷ 4 ∷ 246 ∷ []) refl

pub no_ring : GivenBytes (2 ∷ 0 ∷ 7 ∷ 0 ∷ 8 ∷ 0 ∷ 11 ∷ 0 ∷ 3 ∷ 4 ∷ 246 ∷ []) → ⊥
unfolding is_record recordable record_of ring_of ring_byte starts list_below word_below some_below same
no_ring = no_given (2 ∷ 0 ∷ 7 ∷ 0 ∷ 8 ∷ 0 ∷ 11 ∷ 0 ∷ 3 ∷ 4 ∷ 246 ∷ []) refl

pub no_zero : GivenBytes (2 ∷ 0 ∷ 7 ∷ 0 ∷ 8 ∷ 0 ∷ 10 ∷ 0 ∷ 0 ∷ 7 ∷ 254 ∷ []) → ⊥
unfolding is_record recordable record_of ring_of ring_byte starts list_below word_below some_below same
no_zero = no_given (2 ∷ 0 ∷ 7 ∷ 0 ∷ 8 ∷ 0 ∷ 10 ∷ 0 ∷ 0 ∷ 7 ∷ 254 ∷ []) refl

-- a latency of 33, as a record of 33 would be
pub no_33 : GivenBytes (record_of (33 ∷ [])) → ⊥
unfolding is_record recordable record_of ring_of ring_byte starts list_below word_below some_below same
no_33 = no_given (record_of (33 ∷ [])) refl

-- neither ring is that of 3 4
pub not_spare : IsRing (3 ∷ 4 ∷ []) (118 ∷ []) → ⊥
not_spare r = nowhere (r.spare 7 (omega arith) (omega arith))

pub not_reversed : IsRing (3 ∷ 4 ∷ []) (111 ∷ []) → ⊥
not_reversed r = nowhere (sym ((r.bits 0 (omega arith)).1 (inl refl)))

-- and of the second one no list of 3 4 can be worked out
pub not_from_reversed : list_from_ring 7 (111 ∷ []) ≡ 3 ∷ 4 ∷ [] → ⊥
unfolding list_from_ring intervals_below
not_from_reversed e = let n : ◌≡◌ {A = ℕ} 1 2 = ap length e in omega arith

-- The longest record

abbrev slow : List ℕ
slow = replicate 256 32

slow_recordable : Recordable slow
slow_recordable = record {
  some = omega arith;
  few = omega arith;
  least = λ i h. let e = get_or-replicate {A = ℕ} 256 i 32 0 (omega arith) in omega arith;
  most = λ i h. let e = get_or-replicate {A = ℕ} 256 i 32 0 (omega arith) in omega arith;
}

pub slow_length : length (record_of slow) ≡ longest_record
slow_length = record_length slow ∙ refl

-- 1,288 bytes tell less than all: with a byte after it the longest record is none
pub front_less : SameShown (take 1288 (record_of slow ++ (0 ∷ []))) (record_of slow ++ (0 ∷ [])) → ⊥
front_less s =
    let here : take 1288 (record_of slow ++ (0 ∷ [])) ≡ record_of slow = take_at (record_of slow) (0 ∷ []) 1288 slow_length in
    let is = ((accepted_exactly (record_of slow)).shown (record { cycle = slow; recordable = slow_recordable; gives = refl })).count in
    let more : length (record_of slow ++ (0 ∷ [])) ≡ 1289 = length-append (record_of slow) (0 ∷ []) ∙ omega (arith, slow_length) in
    let none =
    ((accepted_exactly (record_of slow ++ (0 ∷ []))).refused (λ g. omega (arith, more, ap length g.gives, no_longer g.cycle g.recordable))).report
    in
    number_not (sym is ∙ ap report_answer (sym here) ∙ s.report ∙ none)

-- a list of 257 latencies has a longer one, and is no cycle that a record holds
pub too_long : length (record_of (replicate 257 32)) ≤ longest_record → ⊥
too_long h = let n : length (record_of (replicate 257 32)) ≡ 1293 = record_length (replicate 257 32) ∙ refl in omega arith

-- bytes that are refused are not the record of what is read from them
pub not_written : record_of (report_list []) ≡ [] → ⊥
not_written e =
    let none = ((accepted_exactly []).refused no_bytes).list in
    let n : ◌≡◌ {A = ℕ} (length (record_of [])) 0 = ap (λ (l : List ℕ). length (record_of l)) (sym none) ∙ ap length e in
    omega (arith, record_length [])

-- Plans

-- of a tag, K, S, and the latencies 3 4 with a byte after them
abbrev plan : ℕ → ℕ → ℕ → ℕ → Plan
plan tag count sum past = record { tag = tag; count = count; sum = sum; latencies = 3 ∷ 4 ∷ past ∷ replicate 253 0 }

-- room for 11 bytes, and for 10
pub written : (write_answer (plan 1 2 7 0) 11 ≡ Ok 11) × (write_answer (plan 1 2 7 0) 10 ≡ Err ShortOutput)
unfolding write_answer write_refusal writable holds_cycle recordable record_of ring_of ring_byte starts list_below word_below some_below same
written = (refl, refl)

no_nine : is_record (bytes ++ (9 ∷ [])) ≡ false
unfolding is_record recordable record_of ring_of ring_byte starts list_below word_below some_below same
no_nine = refl

-- the bytes after the record stay as before
pub left : write_out (plan 1 2 7 0) (replicate 13 9) ≡ bytes ++ (9 ∷ 9 ∷ [])
unfolding write_out write_refusal writable holds_cycle recordable record_of ring_of ring_byte starts list_below word_below some_below same
left = refl

-- with one of them behind it what was written is no record
pub not_read_back : ReadBack (plan 1 2 7 0) (take 12 (write_out (plan 1 2 7 0) (replicate 13 9))) → ⊥
not_read_back r =
    no_given (bytes ++ (9 ∷ [])) no_nine
    ((accepted_exactly (bytes ++ (9 ∷ []))).report.0 (record { number = 2; shows = ap (λ (b : List ℕ). report_answer (take 12 b)) (sym left) ∙ r.shows.count }))

-- of the tags 0 alone is told apart: no plan, and its bytes are not written
pub tag_0 : (write_answer (plan 4 2 7 0) 11 ≡ Ok 11) × (write_answer (plan 0 2 7 0) 11 ≡ Err BadRecord) × (write_out (plan 0 2 7 0) (replicate 13 9) ≡ replicate 13 9)
unfolding write_answer write_out write_refusal writable holds_cycle recordable record_of ring_of ring_byte starts list_below word_below some_below same
tag_0 = (refl, refl, refl)

-- 15 is tried before 6: tag 0, and no plan at all, without any room
pub first_15 : (write_answer (plan 0 2 7 0) 0 ≡ Err BadRecord) × (write_answer (plan 1 2 8 0) 0 ≡ Err BadRecord)
unfolding write_answer write_refusal writable holds_cycle recordable record_of ring_of ring_byte starts list_below word_below some_below same
first_15 = (refl, refl)

no_plan_lem : (p : Plan) → holds_cycle p ≡ false → GivenPlan p → ⊥
no_plan_lem p e g = nowhere (sym e ∙ given_holds p g)

-- a byte past K; S of 8; K of 0, of 3
pub no_past : GivenPlan (plan 1 2 7 5) → ⊥
unfolding holds_cycle recordable some_below same
no_past = no_plan_lem (plan 1 2 7 5) refl

pub no_plan_sum : GivenPlan (plan 1 2 8 0) → ⊥
unfolding holds_cycle recordable some_below same
no_plan_sum = no_plan_lem (plan 1 2 8 0) refl

pub no_plan_count : (GivenPlan (plan 1 0 0 0) → ⊥) × (GivenPlan (plan 1 3 7 0) → ⊥)
unfolding holds_cycle recordable some_below same
no_plan_count = (no_plan_lem (plan 1 0 0 0) refl, no_plan_lem (plan 1 3 7 0) refl)
