-- A plan's ring played beside a bank, one time unit at a step.
use Rattle.std.specs.Prelude.{ℕ, ◌+◌, Bool, false, cond, not, ◌&&◌, ◌||◌, ltb, eqb, Ok, Err}
use Rattle.unit.specs.declared.Plan.{Plan}
use Rattle.unit.specs.declared.Tag.{Tag}
use Rattle.unit.specs.declared.FunctionUnit.{FunctionUnit}
use Rattle.unit.specs.declared.Refusal.{Refusal}
use Rattle.unit.specs.declared.Refusal.TheVariants.{NotSound, NoSuchTag, BadRecord, NotGranted}
use Rattle.unit.specs.Answers.{Answer}
use Rattle.unit.specs.Unit.{inside, sound_of}
use Rattle.unit.specs.Calls.{check}
use Rattle.controller.specs.declared.Bank.{Bank}
use Rattle.controller.specs.declared.Event.{Event}
use Rattle.controller.specs.declared.Event.TheVariants.{Tick, Start}
use Rattle.controller.specs.Bank.{granted, moved}
use Rattle.plan_record.specs.Record.{ring_of, ring_bit}
use Rattle.plan_record.specs.Write.{cycle_in, holds_cycle}
use Rattle.simulator.specs.declared.UnitPlayed.{UnitPlayed}

-- the tag of a plan
abbrev pub tag_of : Plan → Tag
tag_of p = record { 0 = p.tag }

-- bit i of the plan's ring
abbrev pub bit_of : Plan → ℕ → Bool
bit_of p i = ring_bit (ring_of (cycle_in p)) i

-- a unit with bit 0 is a start of the plan's tag, a unit with bit 1 is a tick
abbrev pub event_of : Plan → ℕ → Event
event_of p i = cond (bit_of p i) Tick (Start (tag_of p))

-- 1 for the unit, 2 for the plan's tag, 15 for the plan or a position from S on, 10 for a start that is not granted
unfoldable pub step_answer : FunctionUnit → Plan → ℕ → Bank → Answer
step_answer u p i b =
    check (sound_of u) NotSound
    (check (inside p.tag u.functions) NoSuchTag
    (check (holds_cycle p && ltb i p.sum) BadRecord
    (check (bit_of p i || granted b p.tag) NotGranted (Ok tt))))

-- the position after i: 0 after S - 1
abbrev pub position_after : Plan → ℕ → ℕ
position_after p i = cond (eqb (i + 1) p.sum) 0 (i + 1)

-- a refused step starts nothing and leaves position and bank
abbrev pub stopped : Refusal → ℕ → Bank → UnitPlayed
stopped why i b = record { answer = Err why; started = false; position = i; bank = b }

-- whether a task has started, the next position, and the bank after the event
abbrev pub playing : Answer → FunctionUnit → Plan → ℕ → Bank → UnitPlayed
playing (Ok _) u p i b = record { answer = (Ok tt); started = not (bit_of p i); position = position_after p i; bank = moved u b (event_of p i) }
playing (Err why) u p i b = stopped why i b

unfoldable pub play_of : FunctionUnit → Plan → ℕ → Bank → UnitPlayed
play_of u p i b = playing (step_answer u p i b) u p i b
