-- Figure 2 of the paper: when the tasks that wait at its port start. A small unit: each refusal, the claims at their limit, and what does not hold where a
-- condition is missing. As theorems. Assumes nothing.
use Rattle.std.proofs.Common.{Ok, Err, Some, None}
use Prim.Native.Nat.{ℕ, ◌+◌, ◌*◌}
use mathlib.Core.Path.{◌≡◌, refl, sym, ap, ◌∙◌}
use mathlib.Core.Bool.{true}
use mathlib.Core.Logic.{◌↔◌}
use mathlib.Core.List.Memᴰ
use mathlib.Core.List.{List, [], ◌∷◌, ◌++◌}
use native.Mathlib.Omega.{arith}
use lib.ListN.{length, get_or, replicate}
use Rattle.words.specs.Below.{some_below, word_below, span_below, max_below, least_from}
use Rattle.unit.specs.declared.FunctionUnit.{FunctionUnit}
use Rattle.unit.specs.declared.Refusal.TheVariants.{NotSound, NoSuchTag, ShortOutput, TooManyWait}
use Rattle.unit.specs.Unit.{marked, marks_inside, sound_of}
use Rattle.unit.specs.Calls.{no_plan}
use Rattle.unit.proofs.Laws.{never_done}
use Rattle.collision.specs.Pipeline.{Task, Clash, Collides}
use Rattle.collision.specs.Vector.{collides, row_word, largest_column}
use Rattle.controller.specs.declared.Bank.{Bank}
use Rattle.controller.specs.declared.Event.TheVariants.{Start}
use Rattle.controller.specs.Bank.{register, empty, row_for, event_answer, moved, step_of}
use Rattle.controller.specs.History.{History, bank_after, history_after, Free, Apart, played}
use Rattle.controller.proofs.Examples.{figure2}
use Rattle.queue.specs.declared.Waiting.{Waiting}
use Rattle.queue.specs.Line.{no_record, tags_inside, forward}
use Rattle.queue.specs.Calls.{room, arrival_answer, arrival_of, arrival_list, unit_answer, oldest, passed_of, pass_of, pass_list}
use Rattle.queue_claims.specs.Runs.{Port, Call, Start as Begun, no_start, after, done, done_all, empty_port, units_in, starts}
use Rattle.queue_claims.specs.Runs.Call.{arrival, unit}
use Rattle.queue_claims.specs.Runs.Action.{event, call}
use Rattle.queue_claims.specs.Claims.{OfTheMatrices, delay, due_unit, due_at, InTurn, units_alone, Steady}
use Rattle.queue_claims.proofs.ColumnLaws.{column_of_tags}

-- Figure 2

abbrev a : Waiting
a = record { tag = 1; ticket = 1 }

abbrev b : Waiting
b = record { tag = 2; ticket = 2 }

-- n is 4
pub figure2_last : largest_column (marked figure2) ≡ 4
unfolding figure2 no_plan marked some_below collides span_below max_below largest_column
figure2_last = refl

-- A may follow A at once, and a third A only five time units after the first: in the sixth
pub figure2_due : due_unit figure2 empty (a ∷ a ∷ a ∷ []) ≡ 6
unfolding figure2 no_plan marked some_below row_for row_word word_below collides register least_from delay due_unit
figure2_due = refl

-- the same by the calls, with a B that arrives meanwhile
pub figure2_starts : starts figure2 (empty_port (replicate 32 no_record)) 0
    (arrival a ∷ arrival a ∷ arrival a ∷ unit ∷ arrival b ∷ unit ∷ unit ∷ unit ∷ unit ∷ unit ∷ [])
    ≡ record { task = a; unit = 1 } ∷ record { task = a; unit = 2 } ∷ record { task = a; unit = 6 } ∷ []
unfolding figure2 no_plan sound_of marks_inside marked some_below row_for row_word word_below collides register event_answer moved step_of tags_inside forward arrival_answer arrival_of arrival_list unit_answer oldest passed_of pass_of pass_list after starts
figure2_starts = refl

-- One function, one segment, marks 1 2: a task may not follow another by one time unit, and n is 1

unfoldable pub pair : FunctionUnit
pair = record { functions = 1; segments = 1; columns = 2; marks = 1 ∷ 1 ∷ replicate 126 0; plan = no_plan }

pub pair_last : largest_column (marked pair) ≡ 1
unfolding pair no_plan marked some_below collides span_below max_below largest_column
pair_last = refl

pub pair_sound : sound_of pair ≡ true
unfolding pair no_plan sound_of marks_inside marked some_below
pair_sound = refl

-- neither 0, since 1 is a column with a 1, nor 2, which is none
pair_meets : Collides (marked pair) 1 1 1
unfolding pair no_plan marked
pair_meets = record { segment = 1; column = 1; later = refl; earlier = refl }

pub not_0 : OfTheMatrices pair 0 → ⊥
unfolding pair
not_0 o = omega (arith, o.most 1 1 1 refl refl (omega arith) pair_meets)

pub not_2 : OfTheMatrices pair 2 → ⊥
not_2 o =
    let m = o.reached (omega arith) in
    omega (arith, (column_of_tags pair pair_sound).most m.0 m.1 2 m.2 m.3 (omega arith) m.4, pair_last)

-- Refusals of an arrival, in their order

abbrev none : List Waiting
none = replicate 32 no_record

pub unit_first : arrival_answer room (record { functions = 0; segments = 1; columns = 2; marks = replicate 128 0; plan = no_plan }) [] 33 b ≡ Err NotSound
unfolding no_plan sound_of marks_inside marked some_below arrival_answer
unit_first = refl

-- 6 before 2
pub list_of_31 : arrival_answer room pair (replicate 31 no_record) 33 b ≡ Err ShortOutput
unfolding pair no_plan sound_of marks_inside marked some_below arrival_answer
list_of_31 = refl

-- 2 for the tag offered before 14
pub tag_before_14 : arrival_answer room pair none 32 b ≡ Err NoSuchTag
unfolding pair no_plan sound_of marks_inside marked some_below arrival_answer
tag_before_14 = refl

-- 14 before 2 for a record that waits: here their tags are 0
pub full : arrival_answer room pair none 32 a ≡ Err TooManyWait
unfolding pair no_plan sound_of marks_inside marked some_below arrival_answer
full = refl

-- a longer list is taken, and 32 stays the limit
pub full_of_40 : arrival_answer room pair (replicate 40 a) 32 a ≡ Err TooManyWait
unfolding pair no_plan sound_of marks_inside marked some_below arrival_answer
full_of_40 = refl

pub strange_tag_waits : arrival_answer room pair none 1 a ≡ Err NoSuchTag
unfolding pair no_plan sound_of marks_inside marked some_below tags_inside arrival_answer
strange_tag_waits = refl

-- the 32nd is accepted
pub last_place : arrival_answer room pair (replicate 32 a) 31 a ≡ Ok tt
unfolding pair no_plan sound_of marks_inside marked some_below tags_inside arrival_answer
last_place = refl

-- Refusals of a time unit

pub unit_of_33 : unit_answer room pair (replicate 40 a) 33 ≡ Err TooManyWait
unfolding pair no_plan sound_of marks_inside marked some_below unit_answer
unit_of_33 = refl

pub unit_of_32 : unit_answer room pair (replicate 40 a) 32 ≡ Ok tt
unfolding pair no_plan sound_of marks_inside marked some_below tags_inside unit_answer
unit_of_32 = refl

pub unit_with_strange_tag : unit_answer room pair none 1 ≡ Err NoSuchTag
unfolding pair no_plan sound_of marks_inside marked some_below tags_inside unit_answer
unit_with_strange_tag = refl

-- The list after a start of three: the others one place forward, and from the new count on as before
abbrev c : Waiting
c = record { tag = 3; ticket = 3 }

pub moved_forward : forward (a ∷ b ∷ c ∷ no_record ∷ []) 3 ≡ b ∷ c ∷ c ∷ no_record ∷ []
unfolding forward
moved_forward = refl

-- the place that is freed is not cleared
pub not_cleared : forward (a ∷ b ∷ c ∷ no_record ∷ []) 3 ≡ b ∷ c ∷ no_record ∷ no_record ∷ [] → ⊥
unfolding forward
not_cleared e = let z : ◌≡◌ {A = ℕ} 3 0 = ap (λ (l : List Waiting). (get_or l 2 no_record).tag) e in absurd (omega arith)

-- The claims at their limit, and what they do not hold of

-- one start by hand, and then an arrival: it starts in unit 2, which is (0 + 1) × (1 + 1)
pub tight : due_at pair (done_all pair (empty_port none) (event (Start (record { 0 = 1 })) ∷ call (arrival a) ∷ [])) 0 ≡ (0 + 1) * (largest_column (marked pair) + 1)
unfolding pair no_plan sound_of marks_inside marked some_below row_for row_word word_below collides register event_answer moved step_of tags_inside arrival_answer arrival_of arrival_list span_below max_below largest_column least_from delay due_unit after done done_all
tight = refl

-- it waits there, so that the claim speaks of it
pub waits_there : (done_all pair (empty_port none) (event (Start (record { 0 = 1 })) ∷ call (arrival a) ∷ [])).count ≡ 1
unfolding pair no_plan sound_of marks_inside marked some_below tags_inside arrival_answer arrival_of after done done_all
waits_there = refl

-- some ports: with a bank whose first two registers hold these words, and with so many of these records and 32 more waiting
abbrev port : ℕ → ℕ → List Waiting → ℕ → Port
port x y line count = record { bank = record { r1 = x; r2 = y; r3 = 0; r4 = 0 }; list = line ++ none; count = count }

-- a bank that the unit's events do not bring about: the third unit is too late
due_late : due_at pair (port 3 0 (a ∷ []) 1) 0 ≡ 3
unfolding pair no_plan marked some_below row_for row_word word_below collides register least_from delay due_unit
due_late = refl

pub not_within : InTurn pair (port 3 0 (a ∷ []) 1) 0 a [] → ⊥
not_within i = omega (arith, i.within, due_late, pair_last)

-- a record of a tag that the unit does not have is not started: the time unit is refused
one_unit : units_in (unit ∷ []) ≡ 1
unfolding units_in
one_unit = refl

due_first : due_at pair (port 0 0 (b ∷ []) 1) 0 ≡ 1
unfolding pair no_plan marked some_below row_for row_word word_below collides register least_from delay due_unit
due_first = refl

starts_none : starts pair (port 0 0 (b ∷ []) 1) 0 (unit ∷ []) ≡ []
unfolding pair no_plan sound_of marks_inside marked some_below row_for row_word word_below collides register event_answer moved step_of tags_inside forward arrival_answer arrival_of arrival_list unit_answer oldest passed_of pass_of pass_list after starts
starts_none = refl

pub not_there : InTurn pair (port 0 0 (b ∷ []) 1) 0 b (unit ∷ []) → ⊥
not_there i = omega (arith, i.there (omega (arith, due_first, one_unit)), ap length starts_none)

-- the younger of two is not the first to start
abbrev younger : Waiting
younger = record { tag = 1; ticket = 2 }

due_older : due_at pair (port 0 0 (a ∷ younger ∷ []) 2) 0 ≡ 1
unfolding pair no_plan marked some_below row_for row_word word_below collides register least_from delay due_unit
due_older = refl

older_starts : starts pair (port 0 0 (a ∷ younger ∷ []) 2) 0 (unit ∷ []) ≡ record { task = a; unit = 1 } ∷ []
unfolding pair no_plan sound_of marks_inside marked some_below row_for row_word word_below collides register event_answer moved step_of tags_inside forward arrival_answer arrival_of arrival_list unit_answer oldest passed_of pass_of pass_list after starts
older_starts = refl

pub not_begins : InTurn pair (port 0 0 (a ∷ younger ∷ []) 2) 0 younger (unit ∷ []) → ⊥
not_begins i =
    let e = i.begins (omega (arith, due_older, one_unit)) in
    let z : ◌≡◌ {A = ℕ} 1 2 = ap (λ (l : List Begun). (get_or l 0 no_start).task.ticket) (sym older_starts) ∙ ap (λ (s : Begun). s.task.ticket) e in
    omega arith

-- what does not wait has no time unit in which it is due: one that arrives later starts sooner, and alters what there would have been
abbrev later : List Call
later = arrival a ∷ unit ∷ []

later_units : units_in later ≡ 1
unfolding units_in
later_units = refl

due_second : due_at pair (port 0 1 (b ∷ []) 0) 0 ≡ 2
unfolding pair no_plan marked some_below row_for row_word word_below collides register least_from delay due_unit
due_second = refl

too_soon : starts pair (port 0 1 (b ∷ []) 0) 0 later ≡ record { task = a; unit = 1 } ∷ []
unfolding pair no_plan sound_of marks_inside marked some_below row_for row_word word_below collides register event_answer moved step_of tags_inside forward arrival_answer arrival_of arrival_list unit_answer oldest passed_of pass_of pass_list after starts
too_soon = refl

pub not_waits : InTurn pair (port 0 1 (b ∷ []) 0) 0 b later → ⊥
not_waits i = omega (arith, i.waits (omega (arith, due_second, later_units)), ap length too_soon)

pub altered : get_or (starts pair (port 0 1 (b ∷ []) 0) 0 later) 0 no_start ≡ get_or (starts pair (port 0 1 (b ∷ []) 0) 0 (units_alone later)) 0 no_start → ⊥
unfolding pair no_plan sound_of marks_inside marked some_below row_for row_word word_below collides register event_answer moved step_of tags_inside forward arrival_answer arrival_of arrival_list unit_answer oldest passed_of pass_of pass_list after starts units_alone
altered e = let z : ◌≡◌ {A = ℕ} 1 0 = ap (λ (s : Begun). s.unit) e in omega arith

-- these calls alone from then on: a start by hand before unit 1, in which the record is due, puts it off
pub due_at_once : due_at pair (port 0 0 (a ∷ []) 1) 0 ≡ 1
unfolding pair no_plan marked some_below row_for row_word word_below collides register least_from delay due_unit
due_at_once = refl

abbrev by_hand : Port
by_hand = done pair (port 0 0 (a ∷ []) 1) (event (Start (record { 0 = 1 })))

pub put_off : passed_of room pair by_hand.bank by_hand.list by_hand.count ≡ Ok None
unfolding pair no_plan sound_of marks_inside marked some_below row_for row_word word_below collides register event_answer moved step_of tags_inside forward arrival_answer arrival_of arrival_list unit_answer oldest passed_of pass_of pass_list after done
put_off = refl

-- not brought from empty, a count of 33 is refused by 14, and a record of a tag that the unit does not have by 2

pub not_steady_units : Steady pair (record { bank = empty; list = replicate 40 a; count = 33 }) → ⊥
unfolding pair no_plan sound_of marks_inside marked some_below unit_answer
not_steady_units s = never_done s.units

pub not_steady_arrivals : Steady pair (record { bank = empty; list = none; count = 1 }) → ⊥
unfolding pair no_plan sound_of marks_inside marked some_below tags_inside arrival_answer
not_steady_arrivals s = never_done (s.arrivals a)

-- The tasks

abbrev pub first : Task
first = record { tag = 1; start = 0 }

abbrev pub second : Task
second = record { tag = 1; start = 1 }

-- one time unit apart they meet
pub meet : Clash (marked pair) first second
unfolding pair no_plan marked
meet = record {
  segment = 1;
  time = 2;
  one = record { column = 2; marked = refl; moment = refl };
  other = record { column = 1; marked = refl; moment = refl };
}

-- so that a queue that started both would not be apart
pub not_apart : Apart (marked pair) (second ∷ first ∷ []) → ⊥
not_apart d = d.0 first (Memᴰ.head refl) meet

-- the bank of a task that has just started
abbrev held_1 : Bank
held_1 = record { r1 = 1; r2 = 0; r3 = 0; r4 = 0 }

-- a bank that is not that of the tasks so far: the oldest is not started, though it would meet none
pub not_exactly : ((passed_of room pair held_1 (a ∷ none) 1 ≡ Ok (Some a)) ↔ Free (marked pair) first []) → ⊥
unfolding pair no_plan sound_of marks_inside marked some_below row_for row_word word_below collides register event_answer moved step_of tags_inside forward arrival_answer arrival_of arrival_list unit_answer oldest passed_of pass_of pass_list after
not_exactly e = let z : (Ok None) ≡ Ok (Some a) = e.1 (λ y m x. Memᴰ.not-nil m) in let y : ◌≡◌ {A = ℕ} 0 1 = cc in omega arith

-- and an empty bank although a task is under way: it is started, though it would meet that one
pub not_free : ((passed_of room pair empty (a ∷ none) 1 ≡ Ok (Some a)) ↔ Free (marked pair) second (first ∷ [])) → ⊥
unfolding pair no_plan sound_of marks_inside marked some_below row_for row_word word_below collides register event_answer moved step_of tags_inside forward arrival_answer arrival_of arrival_list unit_answer oldest passed_of pass_of pass_list after
not_free e = e.0 refl first (Memᴰ.head refl) meet

-- nor is it the bank of no events, which take no time
pub not_played : held_1 ≡ bank_after pair [] → ⊥
unfolding played
not_played e = let z : ◌≡◌ {A = ℕ} 1 0 = ap (λ (x : Bank). x.r1) e in omega arith

pub not_in_time : record { time = 1; tasks = [] } ≡ history_after pair [] → ⊥
unfolding played
not_in_time e = let z : ◌≡◌ {A = ℕ} 1 0 = ap (λ (h : History). h.time) e in omega arith
