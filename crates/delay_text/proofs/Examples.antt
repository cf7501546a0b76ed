-- The table and the file of marks 1 3 6 with m = 3, worked out by hand; the room of the largest; and what the claims do not say. Assumes nothing.
use Rattle.std.proofs.Common.{Ok, Err}
use Prim.Native.Nat.{ℕ}
use mathlib.Core.Path.{◌≡◌, refl, ap}
use mathlib.Core.List.{[], ◌∷◌}
use native.Mathlib.Omega.{arith}
use lib.ListN.{replicate, take}
use Rattle.words.specs.Below.{some_below, count_below, max_below, least_from, word_below, list_below, join_below}
use Rattle.text.specs.Text.{ascii, digits, decimal}
use Rattle.unit.specs.declared.FunctionUnit.{FunctionUnit}
use Rattle.unit.specs.declared.Outcome.{Outcome}
use Rattle.unit.specs.declared.Refusal.TheVariants.{BadInterval, ShortOutput}
use Rattle.unit.specs.Unit.{marked, marks_inside, sound_of}
use Rattle.unit.specs.Calls.{no_plan, tag_answer, unit_of}
use Rattle.unit_file.specs.File.{file_length, table_bytes, offset_bytes, file_of}
use Rattle.unit_file.specs.Read.{read_answer, read_of}
use Rattle.unit_file.specs.Write.{unit_file, write_refusal}
use Rattle.drawing.specs.Tables.{head_text, row_text, table_text}
use Rattle.drawing.specs.Answers.{unit_table, table_refusal}
use Rattle.collision.specs.Vector.{marks_of}
use Rattle.delays.specs.Delays.{sharing, taken, next_place, places, moved_table, crowded, delays_answer, delayed_unit, delays_of}
use Rattle.delays.proofs.Examples.{having, paper, latency_2}
use Rattle.delay_text.specs.Shown.{delayed_table_refusal, delayed_table_answer, delayed_file_refusal, delayed_file_answer, delayed_file_out}

-- 1 3 8

pub its_table : unit_table (delayed_unit paper 1 3) 1 ≡ ascii "     1  2  3  4  5  6  7  8\n  1  x  .  x  .  .  .  .  x\n"
unfolding unit_of marked places next_place taken sharing some_below least_from moved_table list_below word_below table_text head_text row_text join_below decimal digits
its_table = refl

-- bits 0, 2 and 7
pub its_file : unit_file (delayed_unit paper 1 3) ≡ 1 ∷ 1 ∷ 8 ∷ 0 ∷ 6 ∷ 0 ∷ 133 ∷ 0 ∷ 0 ∷ 0 ∷ []
unfolding unit_of marked places next_place taken sharing some_below least_from moved_table list_below word_below file_of offset_bytes table_bytes join_below
its_file = refl

-- two lines of 28 bytes: 56 are enough, 55 are refused by 6
pub table_room : (delayed_table_answer paper 1 3 56 ≡ Ok 56) × (delayed_table_answer paper 1 3 55 ≡ Err ShortOutput)
unfolding delayed_table_answer delayed_table_refusal table_refusal delays_answer tag_answer sound_of marks_inside crowded marks_of max_below count_below no_plan unit_of marked places next_place taken sharing some_below least_from moved_table list_below word_below table_text head_text row_text join_below decimal digits
table_room = (refl, refl)

pub file_room : (delayed_file_answer paper 1 3 10 ≡ Ok 10) × (delayed_file_answer paper 1 3 9 ≡ Err ShortOutput)
unfolding delayed_file_answer delayed_file_refusal write_refusal delays_answer tag_answer sound_of marks_inside crowded marks_of max_below count_below no_plan unit_of marked places next_place taken sharing some_below least_from moved_table list_below word_below
file_room = (refl, refl)

-- the byte after the file stays
pub file_written : delayed_file_out paper 1 3 (replicate 11 9) ≡ 1 ∷ 1 ∷ 8 ∷ 0 ∷ 6 ∷ 0 ∷ 133 ∷ 0 ∷ 0 ∷ 0 ∷ 9 ∷ []
unfolding delayed_file_out delayed_file_refusal write_refusal delays_answer tag_answer sound_of marks_inside crowded marks_of max_below count_below no_plan unit_of marked places next_place taken sharing some_below least_from moved_table list_below word_below file_of offset_bytes table_bytes join_below
file_written = refl

-- 20 is tried before the room
pub before_room : (delayed_table_answer paper 1 2 0 ≡ Err BadInterval) × (delayed_file_answer paper 1 2 0 ≡ Err BadInterval)
unfolding delayed_table_answer delayed_table_refusal delayed_file_answer delayed_file_refusal
before_room = (rw latency_2, rw latency_2)

-- Less room than is claimed does not suffice

-- 16 segments and 32 columns without a mark
abbrev large : FunctionUnit
large = having 1 16 32 (replicate 128 0)

pub large_table : delayed_table_answer large 1 1 1699 ≡ Err ShortOutput
unfolding delayed_table_answer delayed_table_refusal table_refusal delays_answer tag_answer sound_of marks_inside crowded marks_of max_below count_below no_plan unit_of marked places next_place taken sharing some_below least_from moved_table list_below word_below table_text head_text row_text join_below decimal digits
large_table = refl

pub large_file : delayed_file_answer large 1 1 69 ≡ Err ShortOutput
unfolding delayed_file_answer delayed_file_refusal write_refusal delays_answer tag_answer sound_of marks_inside crowded marks_of max_below count_below no_plan unit_of marked places next_place taken sharing some_below least_from moved_table list_below word_below
large_file = refl

-- where the call is refused, what stands in the bytes is not read as what it answers
pub not_saved : read_of (take (file_length 1 1) (delayed_file_out paper 1 2 (replicate 70 0))) ≡ delays_of paper 1 2 → ⊥
unfolding delayed_file_out delayed_file_refusal delays_of read_of read_answer
not_saved e =
    let read : ◌≡◌ {A = ℕ} (read_of (take (file_length 1 1) (delayed_file_out paper 1 2 (replicate 70 0)))).unit.functions 0 = rw latency_2 in
    let kept : ◌≡◌ {A = ℕ} (delays_of paper 1 2).unit.functions 1 = rw latency_2 in
    omega (arith, read, kept, ap (λ (o : Outcome). o.unit.functions) e)
