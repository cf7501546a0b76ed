-- Charts worked out by hand, and what no chart shows. Assumes nothing.
use Rattle.std.proofs.Common.{Ok, Err}
use Prim.Native.Nat.{ℕ, ◌+◌, ◌*◌}
use mathlib.Core.Path.{◌≡◌, refl, sym, ap, ◌∙◌}
use mathlib.Core.List.{[], ◌∷◌, ◌++◌}
use native.Mathlib.Omega.{arith}
use lib.ListN.{replicate}
use Rattle.words.specs.Below.{some_below, count_below, word_below, list_below, join_below}
use Rattle.text.specs.Text.{ascii, digits, decimal, same}
use Rattle.unit.specs.declared.FunctionUnit.{FunctionUnit}
use Rattle.unit.specs.declared.Refusal.TheVariants.{NotSound, NoSuchTag, BadRecord, NotGranted, ShortOutput, NoPlan}
use Rattle.unit.specs.Unit.{marked, marks_inside, sound_of}
use Rattle.unit.specs.Calls.{tag_answer, no_plan}
use Rattle.unit.proofs.Laws.{never_done}
use Rattle.collision.specs.Pipeline.{Serves, start_at, task_at}
use Rattle.collision.specs.Vector.{collides, row_word}
use Rattle.controller.specs.Bank.{register, row_for, moved}
use Rattle.plan_record.specs.Record.{recordable, starts, ring_byte, ring_of}
use Rattle.plan_record.specs.Write.{holds_cycle}
use Rattle.planner.specs.Plans.{read_answer}
use Rattle.function_plan.specs.Own.{own_answer}
use Rattle.simulator.specs.Step.{step_answer, play_of}
use Rattle.simulator.specs.Play.{place_after}
use Rattle.simulator.proofs.Examples.{plan, marked1, figure1, three_four, twice, one}
use Rattle.chart.specs.Cells.{letter, tasks_before, start_cell, cell_of, segment_cell}
use Rattle.chart.specs.Text.{segment_line, chart_text, chart_of}
use Rattle.chart.specs.Answers.{plan_answer, units_answer, charted, chart_refusal, chart_answer, chart_area, simulate_refusal, simulate_answer}
use Rattle.chart_claims.specs.Claims.{ChartShows}
use Rattle.chart.specs.Inner.{top_length, line_length}
use Rattle.chart.proofs.ChartLaws.{refused_short}

-- Fig. 1's unit with its plan 3 4

-- two turns
pub two_turns : chart_of figure1 three_four 14
    ≡ ascii "unit    12345678901234\nstarts  A..B...C..D...\n1       A..B...CA.DB.. busy  6/14\n2       .AA.BB.ACCBDD. busy 10/14\n3       ...A..B...C..D busy  4/14\n4       ....AA.BB..CC. busy  6/14\n5       ......AA.BB..C busy  5/14\n"
unfolding chart_text segment_line start_cell tasks_before cell_of place_after play_of step_answer sound_of marks_inside marked some_below count_below holds_cycle recordable same ring_of ring_byte starts list_below word_below join_below register moved row_for row_word collides decimal digits
two_turns = refl

-- no units: names without cells
pub no_units : chart_of figure1 three_four 0 ≡ ascii "unit    \nstarts  \n1        busy 0/0\n2        busy 0/0\n3        busy 0/0\n4        busy 0/0\n5        busy 0/0\n"
unfolding chart_text segment_line count_below list_below join_below decimal digits
no_units = refl

-- Answers, by the lowest number that applies

-- two lines of 10 bytes and five of 19 for one unit: 115 bytes are enough, 114 are refused by 6
pub just_room : (chart_answer figure1 three_four 1 115 ≡ Ok 115) × (chart_answer figure1 three_four 1 114 ≡ Err ShortOutput)
unfolding no_plan chart_answer chart_refusal plan_answer tag_answer units_answer place_after play_of step_answer sound_of marks_inside marked some_below holds_cycle recordable same ring_of ring_byte starts list_below word_below register moved row_for row_word collides chart_text segment_line start_cell tasks_before cell_of count_below join_below decimal digits
just_room = (refl, refl)

-- a unit that is not sound, a tag that it has not, a plan that holds no cycle: before the room
pub before_room :
    (chart_answer (marked1 0) (plan 2 2 8) 1 0 ≡ Err NotSound)
    × (chart_answer figure1 (plan 2 2 8) 1 0 ≡ Err NoSuchTag)
    × (chart_answer figure1 (plan 1 2 8) 1 0 ≡ Err BadRecord)
unfolding chart_answer chart_refusal plan_answer tag_answer sound_of marks_inside marked some_below holds_cycle recordable
before_room = (refl, refl, refl)

-- 8 for a function without a plan, before all but 1 and 2
abbrev unplanned : FunctionUnit
unplanned = record { functions = 1; segments = 5; columns = 9; marks = figure1.marks; plan = plan 0 2 8 }

pub no_plan_lem : (simulate_answer unplanned 1 1 0 ≡ Err NoPlan) × (simulate_answer unplanned 2 1 0 ≡ Err NoSuchTag)
unfolding simulate_answer simulate_refusal own_answer tag_answer read_answer sound_of marks_inside marked some_below
no_plan_lem = (refl, refl)

-- A plan that does not play: two marks side by side, and a start in every unit

-- the first unit is drawn, and the second refused by 10, unless the room is too short
pub two_units :
    (chart_answer twice one 1 39 ≡ Ok 39)
    × (chart_answer twice one 2 42 ≡ Err NotGranted)
    × (chart_answer twice one 2 41 ≡ Err ShortOutput)
unfolding no_plan chart_answer chart_refusal plan_answer tag_answer units_answer place_after play_of step_answer sound_of marks_inside marked some_below holds_cycle recordable same ring_of ring_byte starts list_below word_below register moved row_for row_word collides chart_text segment_line start_cell tasks_before cell_of count_below join_below decimal digits
two_units = (refl, refl, refl)

refused_2 : units_answer twice one 2 ≡ Err NotGranted
unfolding no_plan units_answer place_after play_of step_answer sound_of marks_inside marked some_below holds_cycle recordable same ring_of ring_byte starts list_below word_below register moved row_for row_word collides
refused_2 = refl

-- and on a unit that is not sound a unit is refused by 1
pub not_ten : units_answer (marked1 0) three_four 1 ≡ Err NotSound
unfolding units_answer place_after play_of step_answer sound_of
not_ten = refl

pub not_shown : ChartShows twice one → ⊥
not_shown s = never_done (sym refused_2 ∙ s.played 2)

-- nor would its chart show the tasks of the cycle: the second does not start, and in unit 2 there is the first alone
pub not_started : ((k : ℕ) → start_cell twice one (start_at (1 ∷ []) k) ≡ letter k) → ⊥
unfolding start_cell tasks_before no_plan place_after play_of step_answer sound_of marks_inside marked some_below count_below holds_cycle recordable same ring_of ring_byte starts list_below word_below register moved row_for row_word collides
not_started f = let e : ◌≡◌ {A = ℕ} 46 66 = f 1 in omega arith

pub not_there : (Serves (marked twice) 1 2 (task_at 1 (1 ∷ []) 1) → segment_cell twice one 1 1 ≡ letter 1) → ⊥
unfolding cell_of start_cell tasks_before no_plan place_after play_of step_answer sound_of marks_inside marked some_below count_below holds_cycle recordable same ring_of ring_byte starts list_below word_below register moved row_for row_word collides
not_there f = let e : ◌≡◌ {A = ℕ} 65 66 = f (record { column = 1; marked = refl; moment = refl }) in omega arith

-- 8,193 units of 16 segments are too many for the area

abbrev wide : FunctionUnit
wide = record { functions = 1; segments = 16; columns = 1; marks = replicate 128 0; plan = one }

wide_done : plan_answer wide one ≡ Ok tt
unfolding plan_answer tag_answer sound_of marks_inside marked some_below holds_cycle recordable same
wide_done = refl

wide_length : top_length 8193 + line_length 8193 * 16 ≡ 147876
unfolding line_length decimal digits
wide_length = refl

pub too_long : chart_answer wide one 8193 chart_area ≡ Err ShortOutput
unfolding chart_answer
too_long = ap (λ a. charted a (chart_of wide one 8193)) (sym (refused_short wide one 8193 chart_area (omega arith) wide_done 147876 (sym wide_length) (omega arith)))

-- Letters come again after 52 tasks, so that only tasks of one time have different ones
pub letters_again : (letter 0 ≡ 65) × (letter 25 ≡ 90) × (letter 26 ≡ 97) × (letter 51 ≡ 122) × (letter 52 ≡ letter 0)
letters_again = (refl, refl, refl, refl, refl)

-- 26 would not do: tasks 0 and 26 of the cycle 1 are both in this unit in time unit 27
abbrev long : FunctionUnit
long = record { functions = 1; segments = 2; columns = 27; marks = 2 ∷ replicate 25 0 ++ 1 ∷ replicate 101 0; plan = one }

pub both_there : Serves (marked long) 1 27 (task_at 1 (1 ∷ []) 0) × Serves (marked long) 2 27 (task_at 1 (1 ∷ []) 26)
unfolding marked
both_there = (record { column = 27; marked = refl; moment = refl }, record { column = 1; marked = refl; moment = refl })
