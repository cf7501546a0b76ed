-- Two callers at one port: their starts by turns, the claims at their limit, and what does not hold where a condition is missing. As theorems. Assumes nothing.
use Rattle.std.proofs.Common.{Ok, Err, Some, None}
use Prim.Native.Nat.{ℕ, ◌+◌, ◌*◌, ◌≤◌, ◌<◌}
use mathlib.Core.Path.{◌≡◌, refl, sym, ap, ◌∙◌}
use mathlib.Core.Bool.{◌||◌}
use mathlib.Core.Logic.{◌⊎◌, inl, inr, ◌↔◌}
use mathlib.Core.List.Memᴰ
use mathlib.Core.List.{List, [], ◌∷◌, ◌++◌}
use native.Mathlib.Omega.{arith}
use lib.Dec.{eqb}
use lib.ListN.{length, get_or, replicate}
use Rattle.words.specs.Below.{some_below, word_below}
use Rattle.unit.specs.declared.Refusal.TheVariants.{NoSuchTag, ShortOutput, TooManyWait, NoSuchCaller}
use Rattle.unit.specs.Unit.{marked, marks_inside, sound_of}
use Rattle.unit.specs.Calls.{no_plan}
use Rattle.unit.proofs.Laws.{never_done}
use Rattle.collision.specs.Vector.{collides, row_word, largest_column}
use Rattle.controller.specs.declared.Bank.{Bank}
use Rattle.controller.specs.declared.Event.TheVariants.{Tick, Start}
use Rattle.controller.specs.Bank.{register, row_for, event_answer, moved, step_of}
use Rattle.controller.specs.History.{History, task_now, played, bank_after, history_after, Free}
use Rattle.queue.specs.declared.Waiting.{Waiting}
use Rattle.queue.specs.Line.{no_record, tags_inside, forward}
use Rattle.queue.specs.Calls.{arrival_answer, oldest}
use Rattle.queue_claims.proofs.Examples.{pair, pair_last, first, second, meet}
use Rattle.callers.specs.Served.{Served}
use Rattle.callers.specs.Turn.{each_caller, first_after}
use Rattle.callers.specs.Calls.{arrival_at, arrival_of, arrival_list, unit_at, passed_at, unit_of, unit_list}
use Rattle.caller_claims.specs.Runs.{Port, Call, Start as Begun, line_of, arrived_at, served_at, after, done, done_all, empty_port, brought, units_in, no_start, starts, starts_of}
use Rattle.caller_claims.specs.Runs.Call.{arrival, unit}
use Rattle.caller_claims.specs.Runs.Action.{event, call}
use Rattle.caller_claims.specs.Claims.{StartsSoon, BothWait, Alternate, within, with_beyond, Steady}
use Rattle.caller_claims.specs.Tasks.{caller_in, history_next, history_from, tasks_after, events_from, events_of}
use Rattle.caller_claims.proofs.Soon.{starts_soon}
use Rattle.caller_claims.proofs.Turns.{take_turns}
use Rattle.caller_claims.proofs.Tasks.{callers_exactly}

-- The unit `pair` has one function and one segment, with marks 1 2: a task may not follow another by one time unit, and n is 1. Two callers have 16 records

abbrev lent : List Waiting
lent = replicate 16 no_record

abbrev a : Waiting
a = record { tag = 1; ticket = 1 }

abbrev b : Waiting
b = record { tag = 1; ticket = 2 }

abbrev c : Waiting
c = record { tag = 1; ticket = 3 }

abbrev d : Waiting
d = record { tag = 1; ticket = 4 }

-- two tasks each: the starts alternate
pub by_turns : starts pair 2 (empty_port 1 lent) 0
    (arrival 1 a ∷ arrival 1 b ∷ arrival 2 c ∷ arrival 2 d ∷ unit ∷ unit ∷ unit ∷ unit ∷ unit ∷ unit ∷ unit ∷ [])
    ≡ record { caller = 1; task = a; unit = 1 } ∷ record { caller = 2; task = c; unit = 3 } ∷ record { caller = 1; task = b; unit = 5 }
    ∷ record { caller = 2; task = d; unit = 7 } ∷ []
unfolding pair no_plan sound_of marks_inside marked some_below row_for row_word word_below collides register event_answer moved step_of tags_inside forward arrival_answer oldest each_caller first_after arrival_at arrival_of arrival_list unit_at passed_at unit_of unit_list after starts
by_turns = refl

-- some ports: with a bank whose first register holds this word, a turn, and queues of which so many wait
abbrev port : ℕ → ℕ → List Waiting → List Waiting → ℕ → ℕ → Port
port r turn one two m n = record {
  bank = record { r1 = r; r2 = 0; r3 = 0; r4 = 0 };
  turn = turn;
  list = one ++ two;
  counts = m ∷ n ∷ 0 ∷ 0 ∷ [];
}

abbrev none : List Waiting
none = replicate 8 no_record

abbrev some : List Waiting
some = a ∷ b ∷ replicate 6 no_record

abbrev others : List Waiting
others = c ∷ d ∷ replicate 6 no_record

-- Refusals

-- there is no caller 3 of 2, and no turn of it
pub no_caller_3 : arrived_at pair 2 (empty_port 1 lent) 3 a ≡ Err NoSuchCaller
unfolding pair no_plan sound_of marks_inside marked some_below arrival_at arrival_of
no_caller_3 = refl

pub no_turn_3 : served_at pair 2 (empty_port 3 lent) ≡ Err NoSuchCaller
unfolding pair no_plan sound_of marks_inside marked some_below each_caller first_after unit_at passed_at unit_of
no_turn_3 = refl

-- nor are there 5 callers
pub not_5_callers : arrived_at pair 5 (empty_port 1 (replicate 40 no_record)) 1 a ≡ Err NoSuchCaller
unfolding pair no_plan sound_of marks_inside marked some_below arrival_at arrival_of
not_5_callers = refl

-- an arrival needs its own queue, and a time unit that of both callers
pub own_queue : arrived_at pair 2 (empty_port 1 (replicate 15 no_record)) 1 a ≡ Ok tt
unfolding pair no_plan sound_of marks_inside marked some_below tags_inside arrival_answer arrival_at arrival_of
own_queue = refl

pub both_queues : served_at pair 2 (empty_port 1 (replicate 15 no_record)) ≡ Err ShortOutput
unfolding pair no_plan sound_of marks_inside marked some_below each_caller first_after unit_at passed_at unit_of
both_queues = refl

-- a ninth is refused, and 8 of one caller do not keep the other's out
pub ninth : arrived_at pair 2 (port 0 1 (replicate 8 a) none 8 0) 1 a ≡ Err TooManyWait
unfolding pair no_plan sound_of marks_inside marked some_below tags_inside arrival_answer arrival_at arrival_of
ninth = refl

pub others_ninth : arrived_at pair 2 (port 0 1 (replicate 8 a) none 8 0) 2 a ≡ Ok tt
unfolding pair no_plan sound_of marks_inside marked some_below tags_inside arrival_answer arrival_at arrival_of
others_ninth = refl

-- number by number over both queues: a count of caller 2 before a tag of caller 1, the list before both, and the turn before all of them
pub count_first : served_at pair 2 (port 0 1 none none 1 9) ≡ Err TooManyWait
unfolding pair no_plan sound_of marks_inside marked some_below tags_inside each_caller first_after unit_at passed_at unit_of
count_first = refl

pub tag_last : served_at pair 2 (port 0 1 none none 1 8) ≡ Err NoSuchTag
unfolding pair no_plan sound_of marks_inside marked some_below tags_inside each_caller first_after unit_at passed_at unit_of
tag_last = refl

pub list_first : served_at pair 2 (port 0 1 none [] 1 9) ≡ Err ShortOutput
unfolding pair no_plan sound_of marks_inside marked some_below tags_inside each_caller first_after unit_at passed_at unit_of
list_first = refl

pub turn_first : served_at pair 2 (port 0 3 none [] 1 9) ≡ Err NoSuchCaller
unfolding pair no_plan sound_of marks_inside marked some_below tags_inside each_caller first_after unit_at passed_at unit_of
turn_first = refl

-- The turn

-- caller 1 has no work: the turn is handed on to caller 2, also where the bank does not grant its task
pub handed_on : (after pair 2 (port 1 1 none others 0 1) unit).turn ≡ 2
unfolding pair no_plan sound_of marks_inside marked some_below row_for row_word word_below collides register event_answer moved step_of tags_inside oldest each_caller first_after unit_at passed_at unit_of unit_list after
handed_on = refl

-- caller 1 has work that has to wait: it keeps the turn, though caller 2 waits too
pub keeps_the_turn : (after pair 2 (port 1 1 some others 2 1) unit).turn ≡ 1
unfolding pair no_plan sound_of marks_inside marked some_below row_for row_word word_below collides register event_answer moved step_of tags_inside oldest each_caller first_after unit_at passed_at unit_of unit_list after
keeps_the_turn = refl

-- after a start the next with work has it, and the starter where it alone has some
pub goes_on : (after pair 2 (port 0 1 some others 2 1) unit).turn ≡ 2
unfolding pair no_plan sound_of marks_inside marked some_below row_for row_word word_below collides register event_answer moved step_of tags_inside oldest each_caller first_after unit_at passed_at unit_of unit_list after
goes_on = refl

pub comes_back : (after pair 2 (port 0 1 some none 2 0) unit).turn ≡ 1
unfolding pair no_plan sound_of marks_inside marked some_below row_for row_word word_below collides register event_answer moved step_of tags_inside oldest each_caller first_after unit_at passed_at unit_of unit_list after
comes_back = refl

-- nobody has work: it stays
pub stays_there : (after pair 2 (port 0 2 none none 0 0) unit).turn ≡ 2
unfolding pair no_plan sound_of marks_inside marked some_below row_for row_word word_below collides register event_answer moved step_of tags_inside oldest each_caller first_after unit_at passed_at unit_of unit_list after
stays_there = refl

-- Each oldest task starts within C × (n + 1) time units

-- one start by hand, and then an arrival at each caller
abbrev loaded : Port
loaded = brought pair 2 1 lent (event (Start (record { 0 = 1 })) ∷ call (arrival 1 a) ∷ call (arrival 2 c) ∷ [])

-- caller 2's waits there, so that the claim speaks of it
pub waits_there : line_of loaded 2 ≡ c ∷ []
unfolding pair no_plan sound_of marks_inside marked some_below tags_inside arrival_answer arrival_at arrival_of arrival_list after done done_all
waits_there = refl

pub claimed : (calls : List Call) → StartsSoon pair 2 loaded 2 c calls
claimed calls =
    starts_soon pair 2 1 refl lent (omega arith) (event (Start (record { 0 = 1 })) ∷ call (arrival 1 a) ∷ call (arrival 2 c) ∷ []) 2 refl c [] waits_there calls

-- it starts in unit 4, which is 2 × (1 + 1), and not before
loaded_starts : starts_of (eqb 2) (starts pair 2 loaded 0 (unit ∷ unit ∷ unit ∷ unit ∷ [])) ≡ record { caller = 2; task = c; unit = 4 } ∷ []
unfolding pair no_plan sound_of marks_inside marked some_below row_for row_word word_below collides register event_answer moved step_of tags_inside forward arrival_answer oldest each_caller first_after arrival_at arrival_of arrival_list unit_at passed_at unit_of unit_list after done done_all starts starts_of
loaded_starts = refl

loaded_waits : starts_of (eqb 2) (starts pair 2 loaded 0 (unit ∷ unit ∷ unit ∷ [])) ≡ []
unfolding pair no_plan sound_of marks_inside marked some_below row_for row_word word_below collides register event_answer moved step_of tags_inside forward arrival_answer oldest each_caller first_after arrival_at arrival_of arrival_list unit_at passed_at unit_of unit_list after done done_all starts starts_of
loaded_waits = refl

units_3 : units_in (unit ∷ unit ∷ unit ∷ []) ≡ 3
unfolding units_in
units_3 = refl

pub tight : (get_or (starts_of (eqb 2) (starts pair 2 loaded 0 (unit ∷ unit ∷ unit ∷ unit ∷ []))) 0 no_start).unit ≡ 2 * (largest_column (marked pair) + 1)
tight = ap (λ (l : List Begun). (get_or l 0 no_start).unit) loaded_starts ∙ omega (arith, pair_last)

-- so that one time unit less would not do, neither for a start nor for its number
pub not_there_sooner : (2 * (largest_column (marked pair) + 1) ≤ units_in (unit ∷ unit ∷ unit ∷ []) + 1
    → 0 < length (starts_of (eqb 2) (starts pair 2 loaded 0 (unit ∷ unit ∷ unit ∷ [])))) → ⊥
not_there_sooner t = omega (arith, t (omega (arith, pair_last, units_3)), ap length loaded_waits)

pub not_sooner : (get_or (starts_of (eqb 2) (starts pair 2 loaded 0 (unit ∷ unit ∷ unit ∷ unit ∷ []))) 0 no_start).unit + 1
    ≤ 2 * (largest_column (marked pair) + 1) → ⊥
not_sooner l = omega (arith, tight)

-- What the claim asks of turn and list is needed

-- on a list that ends before caller 2's queue, and with a turn that names none, a task of caller 1 can wait, and every time unit is refused
abbrev short : Port
short = brought pair 2 1 (replicate 15 no_record) (call (arrival 1 a) ∷ [])

abbrev turnless : Port
turnless = brought pair 2 3 lent (call (arrival 1 a) ∷ [])

pub waits_on_short : line_of short 1 ≡ a ∷ []
unfolding pair no_plan sound_of marks_inside marked some_below tags_inside arrival_answer arrival_at arrival_of arrival_list after done done_all
waits_on_short = refl

short_starts : starts_of (eqb 1) (starts pair 2 short 0 (unit ∷ unit ∷ unit ∷ unit ∷ [])) ≡ []
unfolding pair no_plan sound_of marks_inside marked some_below row_for row_word word_below collides register event_answer moved step_of tags_inside forward arrival_answer oldest each_caller first_after arrival_at arrival_of arrival_list unit_at passed_at unit_of unit_list after done done_all starts starts_of
short_starts = refl

pub waits_turnless : line_of turnless 1 ≡ a ∷ []
unfolding pair no_plan sound_of marks_inside marked some_below tags_inside arrival_answer arrival_at arrival_of arrival_list after done done_all
waits_turnless = refl

turnless_starts : starts_of (eqb 1) (starts pair 2 turnless 0 (unit ∷ unit ∷ unit ∷ unit ∷ [])) ≡ []
unfolding pair no_plan sound_of marks_inside marked some_below row_for row_word word_below collides register event_answer moved step_of tags_inside forward arrival_answer oldest each_caller first_after arrival_at arrival_of arrival_list unit_at passed_at unit_of unit_list after done done_all starts starts_of
turnless_starts = refl

units_4 : units_in (unit ∷ unit ∷ unit ∷ unit ∷ []) ≡ 4
unfolding units_in
units_4 = refl

pub not_on_short : StartsSoon pair 2 short 1 a (unit ∷ unit ∷ unit ∷ unit ∷ []) → ⊥
not_on_short s = omega (arith, s.there (omega (arith, pair_last, units_4)), ap length short_starts)

pub not_turnless : StartsSoon pair 2 turnless 1 a (unit ∷ unit ∷ unit ∷ unit ∷ []) → ⊥
not_turnless s = omega (arith, s.there (omega (arith, pair_last, units_4)), ap length turnless_starts)

-- Not brought from empty

-- where 9 wait at caller 2, every time unit is refused, and caller 1 does not start either
refused_starts : starts_of (eqb 1) (starts pair 2 (port 0 1 some none 1 9) 0 (unit ∷ unit ∷ unit ∷ unit ∷ [])) ≡ []
unfolding pair no_plan sound_of marks_inside marked some_below row_for row_word word_below collides register event_answer moved step_of tags_inside forward oldest each_caller first_after unit_at passed_at unit_of unit_list after starts starts_of
refused_starts = refl

pub not_there : StartsSoon pair 2 (port 0 1 some none 1 9) 1 a (unit ∷ unit ∷ unit ∷ unit ∷ []) → ⊥
not_there s = omega (arith, s.there (omega (arith, pair_last, units_4)), ap length refused_starts)

-- a bank that the unit's events do not bring about: the fifth unit is too late
late_starts : starts_of (eqb 1) (starts pair 2 (port 15 1 some none 1 0) 0 (unit ∷ unit ∷ unit ∷ unit ∷ unit ∷ []))
    ≡ record { caller = 1; task = a; unit = 5 } ∷ []
unfolding pair no_plan sound_of marks_inside marked some_below row_for row_word word_below collides register event_answer moved step_of tags_inside forward oldest each_caller first_after unit_at passed_at unit_of unit_list after starts starts_of
late_starts = refl

pub not_soon : StartsSoon pair 2 (port 15 1 some none 1 0) 1 a (unit ∷ unit ∷ unit ∷ unit ∷ unit ∷ []) → ⊥
not_soon s =
    omega (arith, s.soon (omega (arith, ap length late_starts)), ap (λ (l : List Begun). (get_or l 0 no_start).unit) late_starts, pair_last)

-- the younger of two is not the first to start
older_starts : starts_of (eqb 1) (starts pair 2 (port 0 1 some none 2 0) 0 (unit ∷ [])) ≡ record { caller = 1; task = a; unit = 1 } ∷ []
unfolding pair no_plan sound_of marks_inside marked some_below row_for row_word word_below collides register event_answer moved step_of tags_inside forward oldest each_caller first_after unit_at passed_at unit_of unit_list after starts starts_of
older_starts = refl

pub not_first : StartsSoon pair 2 (port 0 1 some none 2 0) 1 b (unit ∷ []) → ⊥
not_first s =
    let e = s.first (omega (arith, ap length older_starts)) in
    let z : ◌≡◌ {A = ℕ} 1 2 = ap (λ (l : List Begun). (get_or l 0 no_start).task.ticket) (sym older_starts) ∙ ap (λ (w : Waiting). w.ticket) e in
    omega arith

-- By turns, while both wait

abbrev five : List Call
five = unit ∷ unit ∷ unit ∷ unit ∷ unit ∷ []

abbrev both : ℕ → Port
both turn = port 0 turn some others 2 2

pub both_wait : BothWait pair 2 (both 1) 1 2 five
unfolding pair no_plan sound_of marks_inside marked some_below row_for row_word word_below collides register event_answer moved step_of tags_inside forward oldest each_caller first_after unit_at passed_at unit_of unit_list after BothWait
both_wait = (refl, refl, (refl, refl, (refl, refl, (refl, refl, (refl, refl, tt)))))

abbrev of_both : Port → List Begun
of_both p = starts_of (λ k. eqb 1 k || eqb 2 k) (starts pair 2 p 0 five)

from_1 : of_both (both 1)
    ≡ record { caller = 1; task = a; unit = 1 } ∷ record { caller = 2; task = c; unit = 3 } ∷ record { caller = 1; task = b; unit = 5 } ∷ []
unfolding pair no_plan sound_of marks_inside marked some_below row_for row_word word_below collides register event_answer moved step_of tags_inside forward oldest each_caller first_after unit_at passed_at unit_of unit_list after starts starts_of
from_1 = refl

from_2 : of_both (both 2)
    ≡ record { caller = 2; task = c; unit = 1 } ∷ record { caller = 1; task = a; unit = 3 } ∷ record { caller = 2; task = d; unit = 5 } ∷ []
unfolding pair no_plan sound_of marks_inside marked some_below row_for row_word word_below collides register event_answer moved step_of tags_inside forward oldest each_caller first_after unit_at passed_at unit_of unit_list after starts starts_of
from_2 = refl

-- from turn 1 it is caller 1 first, and from turn 2 caller 2

pub one_first : Alternate 1 2 (of_both (both 1))
one_first = rw from_1 (refl, (refl, (refl, tt)))

pub not_two_first : Alternate 2 1 (of_both (both 1)) → ⊥
not_two_first t = let z : ◌≡◌ {A = ℕ} 1 2 = (rw from_1 at t).0 in omega arith

pub two_first : Alternate 2 1 (of_both (both 2))
two_first = rw from_2 (refl, (refl, (refl, tt)))

pub not_one_first : Alternate 1 2 (of_both (both 2)) → ⊥
not_one_first t = let z : ◌≡◌ {A = ℕ} 2 1 = (rw from_2 at t).0 in omega arith

-- where caller 2 does not wait, caller 1 starts twice in a row
alone : of_both (port 0 1 some none 2 0) ≡ record { caller = 1; task = a; unit = 1 } ∷ record { caller = 1; task = b; unit = 3 } ∷ []
unfolding pair no_plan sound_of marks_inside marked some_below row_for row_word word_below collides register event_answer moved step_of tags_inside forward oldest each_caller first_after unit_at passed_at unit_of unit_list after starts starts_of
alone = refl

pub not_by_turns : Alternate 1 2 (of_both (port 0 1 some none 2 0)) ⊎ Alternate 2 1 (of_both (port 0 1 some none 2 0)) → ⊥
not_by_turns (inl t) = let z : ◌≡◌ {A = ℕ} 1 2 = (rw alone at t).1.0 in omega arith
not_by_turns (inr t) = let z : ◌≡◌ {A = ℕ} 1 2 = (rw alone at t).0 in omega arith

-- the claim speaks of them
pub claimed_turns : Alternate 1 2 (of_both (both 1)) ⊎ Alternate 2 1 (of_both (both 1))
claimed_turns = take_turns pair 2 (both 1) 1 2 refl refl (λ e. omega arith) five both_wait

-- what lies beyond C is no caller, though its count may not be 0: of one caller the starts are in a row
pub beyond_waits : BothWait pair 1 (port 0 1 some others 2 2) 1 2 (unit ∷ unit ∷ unit ∷ [])
unfolding pair no_plan sound_of marks_inside marked some_below row_for row_word word_below collides register event_answer moved step_of tags_inside forward oldest each_caller first_after unit_at passed_at unit_of unit_list after BothWait
beyond_waits = (refl, refl, (refl, refl, (refl, refl, tt)))

of_one : starts_of (λ k. eqb 1 k || eqb 2 k) (starts pair 1 (port 0 1 some others 2 2) 0 (unit ∷ unit ∷ unit ∷ []))
    ≡ record { caller = 1; task = a; unit = 1 } ∷ record { caller = 1; task = b; unit = 3 } ∷ []
unfolding pair no_plan sound_of marks_inside marked some_below row_for row_word word_below collides register event_answer moved step_of tags_inside forward oldest each_caller first_after unit_at passed_at unit_of unit_list after starts starts_of
of_one = refl

pub not_beyond : Alternate 1 2 (starts_of (λ k. eqb 1 k || eqb 2 k) (starts pair 1 (port 0 1 some others 2 2) 0 (unit ∷ unit ∷ unit ∷ []))) → ⊥
not_beyond t = let z : ◌≡◌ {A = ℕ} 1 2 = (rw of_one at t).1.0 in omega arith

-- Nothing beyond C

-- whatever there is at caller 2, one caller goes on
pub beyond_unread : served_at pair 1 (port 0 1 some none 1 99) ≡ Ok (Some (1, a))
unfolding pair no_plan sound_of marks_inside marked some_below register tags_inside oldest each_caller first_after unit_at passed_at unit_of
beyond_unread = refl

-- calls of two callers do read and change what lies beyond the first

pub not_units_within : served_at pair 2 (empty_port 1 lent) ≡ served_at pair 2 (within 1 (empty_port 1 lent)) → ⊥
unfolding pair no_plan sound_of marks_inside marked some_below tags_inside oldest each_caller first_after unit_at passed_at unit_of
not_units_within e = let z : ◌≡◌ {A = ℕ} 0 1 = cc in omega arith

pub not_arrivals_within : arrived_at pair 2 (empty_port 1 lent) 2 a ≡ arrived_at pair 2 (within 1 (empty_port 1 lent)) 2 a → ⊥
unfolding pair no_plan sound_of marks_inside marked some_below tags_inside arrival_answer arrival_at arrival_of
not_arrivals_within e = never_done (sym e)

pub not_leaves_beyond : after pair 2 (empty_port 1 lent) (arrival 2 a)
    ≡ with_beyond 1 (empty_port 1 lent) (after pair 2 (within 1 (empty_port 1 lent)) (arrival 2 a)) → ⊥
unfolding pair no_plan sound_of marks_inside marked some_below tags_inside arrival_answer arrival_at arrival_of arrival_list after
not_leaves_beyond e = let z : ◌≡◌ {A = ℕ} 1 0 = ap (λ (p : Port). get_or p.counts 1 0) e in omega arith

-- Not brought from empty: a count of 9 is refused by 14, and a record of a tag that the unit does not have by 2

pub not_steady_count : Steady pair 2 (port 0 1 none none 9 0) → ⊥
unfolding pair no_plan sound_of marks_inside marked some_below each_caller unit_at
not_steady_count s = never_done s.units

pub not_steady_tag : Steady pair 2 (port 0 1 none none 0 1) → ⊥
unfolding pair no_plan sound_of marks_inside marked some_below tags_inside each_caller unit_at
not_steady_tag s = never_done s.units

pub not_steady_arrivals : Steady pair 2 (port 0 1 none none 0 1) → ⊥
unfolding pair no_plan sound_of marks_inside marked some_below tags_inside arrival_answer arrival_at arrival_of
not_steady_arrivals s = never_done (s.arrivals 2 a)

-- The tasks

-- a start by hand, two arrivals that take no time, and four time units
pub events_there : events_of pair 2 1 lent
    (event (Start (record { 0 = 1 })) ∷ call (arrival 1 a) ∷ call (arrival 2 c) ∷ call unit ∷ call unit ∷ call unit ∷ call unit ∷ [])
    ≡ Start (record { 0 = 1 }) ∷ Tick ∷ Start (record { 0 = 1 }) ∷ Tick ∷ Start (record { 0 = 1 }) ∷ []
unfolding pair no_plan sound_of marks_inside marked some_below row_for row_word word_below collides register event_answer moved step_of tags_inside forward arrival_answer oldest each_caller first_after arrival_at arrival_of arrival_list unit_at passed_at unit_of unit_list after done events_from
events_there = refl

-- a bank that was not brought from empty is not that of its events, of which an arrival is none
pub not_played : (after pair 2 (port 1 1 none none 0 0) (arrival 1 a)).bank ≡ bank_after pair [] → ⊥
unfolding after played
not_played e = let z : ◌≡◌ {A = ℕ} 1 0 = ap (λ (x : Bank). x.r1) e in omega arith

-- a refused time unit is no tick: it takes no time
pub not_in_time : tasks_after pair 2 3 lent (call unit ∷ []) ≡ history_after pair (Tick ∷ []) → ⊥
unfolding pair no_plan sound_of marks_inside marked some_below event_answer moved step_of each_caller first_after unit_at passed_at unit_of unit_list after done history_next history_from played
not_in_time e = let z : ◌≡◌ {A = ℕ} 0 1 = ap (λ (h : History). h.time) e in omega arith

-- the oldest of the caller whose turn it is waits there, so that the claim speaks of it
first_waits : line_of loaded (caller_in 2 loaded) ≡ a ∷ []
unfolding pair no_plan sound_of marks_inside marked some_below row_for row_word word_below collides register event_answer moved step_of tags_inside forward arrival_answer oldest each_caller first_after arrival_at arrival_of arrival_list unit_at passed_at unit_of unit_list after done done_all
first_waits = refl

abbrev tasks_loaded : History
tasks_loaded = tasks_after pair 2 1 lent (event (Start (record { 0 = 1 })) ∷ call (arrival 1 a) ∷ call (arrival 2 c) ∷ [])

pub claimed_exactly : (served_at pair 2 loaded ≡ Ok (Some ((caller_in 2 loaded), a))) ↔ Free (marked pair) (task_now tasks_loaded 1) tasks_loaded.tasks
claimed_exactly =
    callers_exactly pair 2 1 refl lent (omega arith) (event (Start (record { 0 = 1 })) ∷ call (arrival 1 a) ∷ call (arrival 2 c) ∷ []) a [] first_waits

-- a bank that is not that of the tasks so far: the oldest is not started, though it would meet none
pub not_exactly : ((served_at pair 2 (port 1 1 some others 1 1) ≡ Ok (Some (1, a))) ↔ Free (marked pair) first []) → ⊥
unfolding pair no_plan sound_of marks_inside marked some_below register tags_inside oldest each_caller first_after unit_at passed_at unit_of
not_exactly e =
    let z : ◌≡◌ {A = Served} (Ok None) (Ok (Some (1, a))) = e.1 (λ y m x. Memᴰ.not-nil m) in
    let y : ◌≡◌ {A = ℕ} 0 1 = cc in
    omega arith

-- and an empty bank although a task is under way: it is started, though it would meet that one
pub not_free : ((served_at pair 2 (port 0 1 some others 1 1) ≡ Ok (Some (1, a))) ↔ Free (marked pair) second (first ∷ [])) → ⊥
unfolding pair no_plan sound_of marks_inside marked some_below register tags_inside oldest each_caller first_after unit_at passed_at unit_of
not_free e = e.0 refl first (Memᴰ.head refl) meet

-- the caller that an answer names
abbrev caller_told : Served → ℕ
caller_told (Ok (Some start)) = start.0
caller_told (Ok None) = 0
caller_told (Err why) = 0

-- the caller whose turn it is not does not start, though its task would meet none
pub not_out_of_turn : ((served_at pair 2 (port 0 1 some others 1 1) ≡ Ok (Some (2, c))) ↔ Free (marked pair) first []) → ⊥
unfolding pair no_plan sound_of marks_inside marked some_below register tags_inside oldest each_caller first_after unit_at passed_at unit_of
not_out_of_turn e =
    let y : ◌≡◌ {A = ℕ} 1 2 = ap caller_told (e.1 (λ y m x. Memᴰ.not-nil m)) in
    omega arith

-- nor does any where the list does not hold both queues
pub not_in_half : ((served_at pair 2 (port 0 1 some [] 1 0) ≡ Ok (Some (1, a))) ↔ Free (marked pair) first []) → ⊥
unfolding pair no_plan sound_of marks_inside marked some_below register tags_inside oldest each_caller first_after unit_at passed_at unit_of
not_in_half e =
    let z : ◌≡◌ {A = Served} (Err ShortOutput) (Ok (Some (1, a))) = e.1 (λ y m x. Memᴰ.not-nil m) in
    let y : ◌≡◌ {A = ℕ} 0 1 = cc in
    omega arith
