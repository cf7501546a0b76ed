-- The issue controller's bank of four registers, and what an event answers and makes of it.
use Rattle.std.specs.Prelude.{ℕ, zero, suc, ◌/◌, ◌%◌, Bool, cond, leb, eqb, Ok, Err}
use Rattle.std.specs.Int.Bits.{bit_or}
use Rattle.unit.specs.declared.FunctionUnit.{FunctionUnit}
use Rattle.unit.specs.declared.Refusal.TheVariants.{NotSound, NoSuchTag, NotGranted}
use Rattle.unit.specs.Answers.{Answer}
use Rattle.unit.specs.Unit.{inside, marked, sound_of}
use Rattle.unit.specs.Calls.{check}
use Rattle.collision.specs.Vector.{row_word}
use Rattle.controller.specs.declared.Bank.{Bank}
use Rattle.controller.specs.declared.Event.{Event}
use Rattle.controller.specs.declared.Event.TheVariants.{Tick, Start}
use Rattle.controller.specs.declared.Stepped.{Stepped}

-- the register of a tag, 1 to 4; 0 for any other number
unfoldable pub register : Bank → ℕ → ℕ
register b q =
    cond (eqb q 1) b.r1
    (cond (eqb q 2) b.r2
    (cond (eqb q 3) b.r3
    (cond (eqb q 4) b.r4 0)))

-- empty means all zero
abbrev pub empty : Bank
empty = record { r1 = 0; r2 = 0; r3 = 0; r4 = 0 }

-- a tick shifts each register right by one
abbrev pub shifted : Bank → Bank
shifted b = record { r1 = b.r1 / 2; r2 = b.r2 / 2; r3 = b.r3 / 2; r4 = b.r4 / 2 }

-- the bank after m ticks
abbrev pub ticked : ℕ → Bank → Bank
ticked zero b = b
ticked (suc m) b = shifted (ticked m b)

-- row r of M_q, for each tag r of the unit
unfoldable pub row_for : FunctionUnit → ℕ → ℕ → ℕ
row_for u q r = cond (leb r u.functions) (row_word (marked u) r q) 0

-- a start of q shifts all registers right by one, and ORs row r of M_q into register r
abbrev pub started : FunctionUnit → ℕ → Bank → Bank
started u q b = record {
  r1 = bit_or (b.r1 / 2) (row_for u q 1);
  r2 = bit_or (b.r2 / 2) (row_for u q 2);
  r3 = bit_or (b.r3 / 2) (row_for u q 3);
  r4 = bit_or (b.r4 / 2) (row_for u q 4);
}

-- a start of q is granted when the lowest bit of register q is 0
abbrev pub granted : Bank → ℕ → Bool
granted b q = eqb (register b q % 2) 0

-- the answer to an event: the lowest number that applies, of 1 for a tick, of 1, 2 and 10 for a start, or done
unfoldable pub event_answer : FunctionUnit → Bank → Event → Answer
event_answer u b Tick = check (sound_of u) NotSound (Ok tt)
event_answer u b (Start q) =
    check (sound_of u) NotSound
    (check (inside q.0 u.functions) NoSuchTag
    (check (granted b q.0) NotGranted (Ok tt)))

-- the bank after an accepted event
unfoldable pub moved : FunctionUnit → Bank → Event → Bank
moved u b Tick = shifted b
moved u b (Start q) = started u q.0 b

-- a refused event leaves the bank as it was
abbrev pub bank_then : Answer → Bank → Bank → Bank
bank_then (Ok _) old new = new
bank_then (Err why) old new = old

-- one event, on any bank
unfoldable pub step_of : FunctionUnit → Bank → Event → Stepped
step_of u b e = record { answer = event_answer u b e; bank = bank_then (event_answer u b e) b (moved u b e) }
