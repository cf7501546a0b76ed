-- A plan played on Fig. 1's unit, worked out by hand; and what does not play. Assumes nothing.
use Rattle.std.proofs.Common.{Ok, Err}
use Prim.Native.Nat.{ℕ, zero, suc, ◌≤◌, ◌<◌}
use mathlib.Core.Path.{◌≡◌, refl, sym, ap, ◌∙◌, subst}
use mathlib.Core.Bool.{Bool, true, false}
use mathlib.Core.List.{List, [], ◌∷◌}
use native.Mathlib.Omega.{arith}
use lib.Dec.{leb}
use lib.ListN.{length, get_or, replicate, length-replicate}
use Rattle.words.specs.Bits.{set_bit}
use Rattle.words.specs.Below.{some_below, span_below, word_below, list_below}
use Rattle.words.proofs.Tests.{nowhere}
use Rattle.text.specs.Text.{same}
use Rattle.unit.specs.declared.Plan.{Plan}
use Rattle.unit.specs.declared.FunctionUnit.{FunctionUnit}
use Rattle.unit.specs.declared.Refusal.{Refusal}
use Rattle.unit.specs.declared.Refusal.TheVariants.{NotSound, NoSuchTag, BadRecord, NotGranted, TooManyStates}
use Rattle.unit.specs.Table.{Table, empty}
use Rattle.unit.specs.Unit.{marked, marks_inside, sound_of}
use Rattle.unit.specs.Calls.{check, tag_answer, spot_answer, no_plan, fresh_of, mark_of}
use Rattle.unit.proofs.Laws.{never_done}
use Rattle.unit.proofs.EditLaws.{blank_table}
use Rattle.collision.specs.Pipeline.{total, NeverCollides}
use Rattle.collision.specs.Vector.{collides, row_word, vector_word}
use Rattle.diagram.specs.Diagram.{width}
use Rattle.diagram.specs.Diagram.Walk.{stay, step}
use Rattle.diagram.specs.Cycles.{CycleFrom}
use Rattle.diagram.specs.States.{states, expand, list_from}
use Rattle.diagram.specs.Answers.{few_states}
use Rattle.diagram.proofs.ListLaws.{one_distinct}
use Rattle.controller.specs.declared.Bank.{Bank}
use Rattle.controller.specs.Bank.{register, row_for, event_answer, moved, step_of}
use Rattle.plan_record.specs.Record.{recordable, starts, ring_byte, ring_of}
use Rattle.plan_record.specs.Write.{holds_cycle}
use Rattle.planner.specs.Plans.{Best, with_plan, search_answer, Found, SearchPromise, read_answer, read_of}
use Rattle.planner.specs.Sheet.{Call, Reply, Searching, Leaves}
use Rattle.planner.specs.Sheet.Call.{Mark, Search, Read}
use Rattle.planner.specs.Sheet.Reply.{accepted, handed}
use Rattle.simulator.specs.declared.UnitPlayed.{UnitPlayed}
use Rattle.simulator.specs.Step.{step_answer, play_of}
use Rattle.simulator.specs.Play.{place_after, unit_after}
use Rattle.simulator.specs.Claims.{PlaysAt, Plays, FoundPlan, HandedOut}
use Rattle.simulator.proofs.Claims.{every_plan_plays, every_search_plays}

-- Steps

-- register 1 holds a word, the others 0
abbrev pub holding : ℕ → Bank
holding w = record { r1 = w; r2 = 0; r3 = 0; r4 = 0 }

-- an accepted step: whether a task has started, the next position, and register 1
abbrev goes : Bool → ℕ → ℕ → UnitPlayed
goes started i w = record { answer = (Ok tt); started = started; position = i; bank = holding w }

-- a refused step: position and register 1 stay
abbrev stays : Refusal → ℕ → ℕ → UnitPlayed
stays why i w = record { answer = Err why; started = false; position = i; bank = holding w }

-- The first turn of Fig. 1's plan 3 4

-- a plan of a tag, K and S with the latencies 3 4
abbrev pub plan : ℕ → ℕ → ℕ → Plan
plan tag count sum = record { tag = tag; count = count; sum = sum; latencies = 3 ∷ 4 ∷ replicate 254 0 }

-- a number of functions, and the marks of Fig. 1: a word for each column, bit r - 1 for segment r
abbrev pub marked1 : ℕ → FunctionUnit
marked1 functions = record {
  functions = functions;
  segments = 5;
  columns = 9;
  marks = 1 ∷ 2 ∷ 2 ∷ 4 ∷ 8 ∷ 8 ∷ 16 ∷ 18 ∷ 1 ∷ replicate 119 0;
  plan = plan 1 2 7;
}

abbrev pub figure1 : FunctionUnit
figure1 = marked1 1

abbrev pub three_four : Plan
three_four = plan 1 2 7

-- starts at 0 and 3: there register 1 is shifted and the collision vector 10110001 ORed into it
pub first_task :
    (unit_after figure1 three_four 0 ≡ goes true 1 0b10110001)
    × (unit_after figure1 three_four 1 ≡ goes false 2 0b01011000)
    × (unit_after figure1 three_four 2 ≡ goes false 3 0b00101100)
unfolding place_after play_of step_answer sound_of marks_inside marked some_below holds_cycle recordable same ring_of ring_byte starts list_below word_below register moved row_for row_word collides
first_task = (refl, refl, refl)

pub second_task :
    (unit_after figure1 three_four 3 ≡ goes true 4 0b10110111)
    × (unit_after figure1 three_four 4 ≡ goes false 5 0b01011011)
    × (unit_after figure1 three_four 5 ≡ goes false 6 0b00101101)
    × (unit_after figure1 three_four 6 ≡ goes false 0 0b00010110)
unfolding place_after play_of step_answer sound_of marks_inside marked some_below holds_cycle recordable same ring_of ring_byte starts list_below word_below register moved row_for row_word collides
second_task = (refl, refl, refl, refl)

-- after seven units the ring is at 0 again, and the next turn starts
pub next_turn_lem : ((place_after figure1 three_four 7).position ≡ 0) × (unit_after figure1 three_four 7 ≡ goes true 1 0b10111011)
unfolding place_after play_of step_answer sound_of marks_inside marked some_below holds_cycle recordable same ring_of ring_byte starts list_below word_below register moved row_for row_word collides
next_turn_lem = (refl, refl)

-- Refused steps, by the lowest number that applies

-- no function: 1, whatever the plan
pub not_sound : play_of (marked1 0) (plan 9 0 0) 7 (holding 1) ≡ stays NotSound 7 1
unfolding play_of step_answer sound_of
not_sound = refl

-- tags 0 and 2, though the plan holds no cycle: 2
pub no_such_tag : (play_of figure1 (plan 0 0 0) 7 (holding 1) ≡ stays NoSuchTag 7 1) × (play_of figure1 (plan 2 0 0) 7 (holding 1) ≡ stays NoSuchTag 7 1)
unfolding play_of step_answer sound_of marks_inside marked some_below
no_such_tag = (refl, refl)

-- S of 8; the positions 7 and 8, though the bank would not grant: 15
pub bad_sum : play_of figure1 (plan 1 2 8) 0 (holding 0) ≡ stays BadRecord 0 0
unfolding play_of step_answer sound_of marks_inside marked some_below holds_cycle recordable
bad_sum = refl

pub bad_position : (play_of figure1 three_four 7 (holding 1) ≡ stays BadRecord 7 1) × (play_of figure1 three_four 8 (holding 1) ≡ stays BadRecord 8 1)
unfolding play_of step_answer sound_of marks_inside marked some_below holds_cycle recordable same
bad_position = (refl, refl)

-- a start that the bank does not grant: 10; with the same bank a tick goes
pub not_granted : play_of figure1 three_four 0 (holding 1) ≡ stays NotGranted 0 1
unfolding play_of step_answer sound_of marks_inside marked some_below holds_cycle recordable same ring_of ring_byte starts list_below word_below register
not_granted = refl

pub ticks : play_of figure1 three_four 1 (holding 1) ≡ goes false 2 0
unfolding play_of step_answer sound_of marks_inside marked some_below holds_cycle recordable same ring_of ring_byte starts list_below word_below moved
ticks = refl

-- A segment marked in two columns: the plan 1 does not play

abbrev pub twice : FunctionUnit
twice = record { functions = 1; segments = 1; columns = 2; marks = 1 ∷ 1 ∷ replicate 126 0; plan = no_plan }

abbrev pub one : Plan
one = record { tag = 1; count = 1; sum = 1; latencies = 1 ∷ replicate 255 0 }

pub second_refused : unit_after twice one 1 ≡ stays NotGranted 0 1
unfolding no_plan place_after play_of step_answer sound_of marks_inside marked some_below holds_cycle recordable same ring_of ring_byte starts list_below word_below register moved row_for row_word collides
second_refused = refl

pub twice_not : Plays twice one → ⊥
twice_not p = never_done (sym (ap (λ (x : UnitPlayed). x.answer) second_refused) ∙ (p.each 1).accepted)

-- nor is its second unit a granted start; and on a unit that is not sound the ring does not move
pub no_grant : PlaysAt twice one 1 → ⊥
unfolding no_plan place_after play_of step_answer step_of event_answer sound_of marks_inside marked some_below holds_cycle recordable same ring_of ring_byte starts list_below word_below register moved row_for row_word collides
no_grant p = never_done (p.start refl).0

pub no_move : PlaysAt (marked1 0) three_four 1 → ⊥
unfolding place_after play_of step_answer sound_of
no_move p = omega (arith, p.position)

-- Without the condition that no edit is accepted the claim fails: the plan 1 of a function without marks, which is then marked like `twice`

abbrev pub CarelessSearch : Type 0
CarelessSearch = (p : Plan) (later : List Call) (told : List Reply) (left : FunctionUnit) → FoundPlan p later told left → Plays left p

abbrev pub CarelessPlan : Type 0
CarelessPlan = (p : Plan) (later : List Call) (told : List Reply) (left : FunctionUnit) → HandedOut p later told left → Plays left p

-- the unit without marks
abbrev clear : FunctionUnit
clear = (fresh_of 1 1 2).unit

no_marks : marked clear ≡ empty
unfolding fresh_of
no_marks = blank_table 1 1 2

no_vector : vector_word (marked clear) 1 ≡ 0
unfolding row_word word_below collides some_below
no_vector = ap (λ (T : Table). vector_word T 1) no_marks

-- the one state permits the latency 1, which leads back to it
round : CycleFrom 1 (width 0) 0 (1 ∷ [])
unfolding span_below
round = record {
  state = 0;
  reached = record { along = []; walk = stay };
  closed = step {t = 1} (record { positive = omega arith; spaced = omega arith; small = omega arith; free = λ h. refl }) stay;
  apart = one_distinct 0;
}

-- each latency is 1 or more
slower : (rival : List ℕ) → ((i : ℕ) → i < length rival → 1 ≤ get_or rival i 0) → length rival ≤ total rival
slower [] each = omega arith
slower (t ∷ rival) each = omega (arith, each 0 (omega arith), slower rival (λ i h. each (suc i) (omega arith)))

one_never : NeverCollides (marked clear) 1 (1 ∷ [])
one_never i j h c = nowhere (sym (ap (λ (T : Table). T 1 c.segment c.one.column) no_marks) ∙ c.one.marked)

-- what holds of 0 holds of every number below 1
alone : (P : ℕ → Type 0) → P 0 → (i : ℕ) → i < 1 → P i
alone P x zero h = x
alone P x (suc i) h = absurd (omega arith)

one_best : Best 1 (marked clear) 1 (1 ∷ [])
one_best = record {
  latencies = record { nonempty = omega arith; each = alone (λ i. 1 ≤ get_or (1 ∷ []) i 0) (omega arith) };
  diagram = subst (λ w. CycleFrom 1 (width w) w (1 ∷ [])) (sym no_vector) round;
  rotation = alone _ refl;
  never = one_never;
  least = λ rival c n. omega (arith, slower rival c.each);
}

-- the diagram has one state
one_state : few_states 1 (marked clear) 1 ≡ Ok tt
unfolding span_below expand list_from
one_state = ap (λ w. check (leb (length (states 256 1 (width w) w)) 256) TooManyStates (Ok tt)) no_vector

search_done : search_answer clear 1 16000 ≡ Ok tt
unfolding search_answer fresh_of no_plan tag_answer sound_of marks_inside marked some_below
search_done = one_state

-- the working words
abbrev lent : List ℕ
lent = replicate 16000 0

one_found : Found clear 1 (with_plan clear one)
one_found = record { cycle = 1 ∷ []; few = omega arith; best = one_best; unit = refl }

one_promise : SearchPromise clear 1 lent lent (Ok tt) (with_plan clear one)
one_promise = record {
  says = sym (ap (search_answer clear 1) (length-replicate {A = ℕ} 16000 0) ∙ search_done);
  kept = λ why e. never_done (sym e);
  found = λ e. one_found;
  work = record { size = refl; beyond = λ i h. refl; kept = λ why e n. refl };
}

edits : Leaves (with_plan clear one) (Mark 1 1 1 ∷ Mark 1 1 2 ∷ []) (accepted ∷ accepted ∷ []) twice
unfolding fresh_of no_plan mark_of spot_answer sound_of marks_inside marked some_below set_bit
edits = (
  (mark_of (with_plan clear one) 1 1 1).unit,
  (mark_of (with_plan clear one) 1 1 1, refl, refl, refl),
  (twice, (record { answer = (Ok tt); unit = twice }, refl, refl, refl), refl),
)

one_found_plan : (later : List Call) (told : List Reply) (left : FunctionUnit) → Leaves (with_plan clear one) later told left → FoundPlan one later told left
one_found_plan later told left run = record {
  unit = clear;
  tag = 1;
  before = lent;
  words = lent;
  found = with_plan clear one;
  search = one_promise;
  plan = refl;
  stays = run;
}

-- the same from a fresh unit, with a read after the search
searching : Searching clear 1 16000 accepted (with_plan clear one)
searching = record {
  before = lent;
  words = lent;
  lent = length-replicate {A = ℕ} 16000 0;
  answer = (Ok tt);
  promise = one_promise;
  told = refl;
}

read_one : read_of (with_plan clear one) ≡ Ok one
unfolding read_of read_answer fresh_of no_plan sound_of marks_inside marked some_below
read_one = refl

one_handed : (later : List Call) (told : List Reply) (left : FunctionUnit) → Leaves (with_plan clear one) later told left → HandedOut one later told left
one_handed later told left run = record {
  functions = 1;
  segments = 1;
  columns = 2;
  good = refl;
  calls = Search 1 16000 ∷ [];
  replies = accepted ∷ [];
  unit = with_plan clear one;
  leaves = (with_plan clear one, searching, refl);
  handed = read_one;
  stays = run;
}

pub careless_search : CarelessSearch → ⊥
careless_search f = twice_not (f one (Mark 1 1 1 ∷ Mark 1 1 2 ∷ []) (accepted ∷ accepted ∷ []) twice (one_found_plan _ _ twice edits))

pub careless_plan : CarelessPlan → ⊥
careless_plan f = twice_not (f one (Mark 1 1 1 ∷ Mark 1 1 2 ∷ []) (accepted ∷ accepted ∷ []) twice (one_handed _ _ twice edits))

-- With it the plan plays, also after a further read
pub one_plays : Plays (with_plan clear one) one
one_plays = every_plan_plays one [] [] (with_plan clear one) (one_handed [] [] (with_plan clear one) refl) tt

pub one_plays_on : Plays (with_plan clear one) one
one_plays_on = every_search_plays one (Read ∷ []) (handed one ∷ []) (with_plan clear one) (one_found_plan _ _ (with_plan clear one) one_read) tt
  where
    one_read : Leaves (with_plan clear one) (Read ∷ []) (handed one ∷ []) (with_plan clear one)
    one_read = (with_plan clear one, (Ok one, sym read_one, refl, refl), refl)
