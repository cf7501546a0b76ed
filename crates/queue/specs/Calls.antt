-- What an arrival and a time unit answer, and the list, the count and the bank that they leave. A queue has room for 32 records; the room is a
-- parameter, because each caller's queue in a port that several share has another.
use Rattle.std.specs.Prelude.{ℕ, ◌+◌, ◌-◌, Bool, cond, List, [], ◌∷◌, leb, ltb, length, take, set, replicate, Ok, Err, Some, None}
use Rattle.unit.specs.declared.FunctionUnit.{FunctionUnit}
use Rattle.unit.specs.declared.Refusal.TheVariants.{NotSound, NoSuchTag, ShortOutput, TooManyWait}
use Rattle.unit.specs.Answers.{Answer}
use Rattle.unit.specs.Unit.{inside, sound_of}
use Rattle.unit.specs.Calls.{check}
use Rattle.controller.specs.declared.Bank.{Bank}
use Rattle.controller.specs.declared.Event.TheVariants.{Tick, Start}
use Rattle.controller.specs.Bank.{granted, step_of}
use Rattle.queue.specs.declared.Waiting.{Waiting}
use Rattle.queue.specs.declared.Arrival.{Arrival}
use Rattle.queue.specs.Passed.{Passed}
use Rattle.queue.specs.declared.Pass.{Pass}
use Rattle.queue.specs.declared.Queue.{Queue}
use Rattle.queue.specs.declared.Joined.{Joined}
use Rattle.queue.specs.declared.Advanced.{Advanced}
use Rattle.queue.specs.Line.{no_record, tag_of, tags_inside, forward}

-- 32 records
abbrev pub room : ℕ
room = 32

-- An arrival

-- 1; 6 for a list under the room; 2 for the tag offered; 14 where as many as there is room for already wait; 2 for the tag of any waiting record:
-- by the length of the list, how many wait, the tag offered, and whether the tags that wait are the unit's
abbrev pub arrival_by : ℕ → FunctionUnit → ℕ → ℕ → ℕ → Bool → Answer
arrival_by size u length count tag fit =
    check (sound_of u) NotSound
    (check (leb size length) ShortOutput
    (check (inside tag u.functions) NoSuchTag
    (check (ltb count size) TooManyWait
    (check fit NoSuchTag (Ok tt)))))

unfoldable pub arrival_answer : ℕ → FunctionUnit → List Waiting → ℕ → Waiting → Answer
arrival_answer size u list count offered = arrival_by size u (length list) count offered.tag (tags_inside u.functions (take count list))

-- an accepted arrival waits behind the others; a refused one changes nothing
abbrev pub count_then : Answer → ℕ → ℕ
count_then (Ok _) count = count + 1
count_then (Err why) count = count

abbrev pub list_then : Answer → List Waiting → ℕ → Waiting → List Waiting
list_then (Ok _) list count offered = set list count offered
list_then (Err why) list count offered = list

unfoldable pub arrival_of : ℕ → FunctionUnit → List Waiting → ℕ → Waiting → Arrival
arrival_of size u list count offered = record {
  answer = arrival_answer size u list count offered;
  count = count_then (arrival_answer size u list count offered) count;
}

-- the list afterwards
unfoldable pub arrival_list : ℕ → FunctionUnit → List Waiting → ℕ → Waiting → List Waiting
arrival_list size u list count offered = list_then (arrival_answer size u list count offered) list count offered

-- A time unit

-- 1; 6 for a list under the room; 14 for a count above it; 2 for the tag of any waiting record
abbrev pub unit_by : ℕ → FunctionUnit → ℕ → ℕ → Bool → Answer
unit_by size u length count fit =
    check (sound_of u) NotSound
    (check (leb size length) ShortOutput
    (check (leb count size) TooManyWait
    (check fit NoSuchTag (Ok tt))))

unfoldable pub unit_answer : ℕ → FunctionUnit → List Waiting → ℕ → Answer
unit_answer size u list count = unit_by size u (length list) count (tags_inside u.functions (take count list))

-- the oldest of the records that wait is started if the bank grants it; otherwise none is
unfoldable pub oldest : Bank → List Waiting → Passed
oldest b [] = Ok None
oldest b (w ∷ line) = cond (granted b w.tag) (Ok (Some w)) (Ok None)

abbrev pub passed_then : Answer → Passed → Passed
passed_then (Ok _) next = next
passed_then (Err why) next = Err why

unfoldable pub passed_of : ℕ → FunctionUnit → Bank → List Waiting → ℕ → Passed
passed_of size u b list count = passed_then (unit_answer size u list count) (oldest b (take count list))

-- a start is the controller's start of the record's tag, and otherwise the unit passes as the controller's tick
abbrev pub bank_then : FunctionUnit → Passed → Bank → Bank
bank_then u (Ok (Some w)) b = (step_of u b (Start (tag_of w))).bank
bank_then u (Ok None) b = (step_of u b Tick).bank
bank_then u (Err why) b = b

-- a start leaves one record less, and moves the others one place forward
abbrev pub fewer : Passed → ℕ → ℕ
fewer (Ok (Some w)) count = count - 1
fewer (Ok None) count = count
fewer (Err why) count = count

abbrev pub list_after : Passed → List Waiting → ℕ → List Waiting
list_after (Ok (Some w)) list count = forward list count
list_after (Ok None) list count = list
list_after (Err why) list count = list

unfoldable pub pass_of : ℕ → FunctionUnit → Bank → List Waiting → ℕ → Pass
pass_of size u b list count = record {
  answer = passed_of size u b list count;
  bank = bank_then u (passed_of size u b list count) b;
  count = fewer (passed_of size u b list count) count;
}

-- the list afterwards
unfoldable pub pass_list : ℕ → FunctionUnit → Bank → List Waiting → ℕ → List Waiting
pass_list size u b list count = list_after (passed_of size u b list count) list count

-- A queue as a value: its list has 32 records, and an arrival and a time unit answer and leave the same

abbrev pub empty_queue : Queue
empty_queue = record { list = replicate room no_record; count = 0 }

abbrev pub join_of : FunctionUnit → Queue → Waiting → Joined
join_of u q offered = record {
  answer = (arrival_of room u q.list q.count offered).answer;
  queue = record {
    list = arrival_list room u q.list q.count offered;
    count = (arrival_of room u q.list q.count offered).count;
  };
}

abbrev pub advance_of : FunctionUnit → Bank → Queue → Advanced
advance_of u b q = record {
  answer = (pass_of room u b q.list q.count).answer;
  bank = (pass_of room u b q.list q.count).bank;
  queue = record {
    list = pass_list room u b q.list q.count;
    count = (pass_of room u b q.list q.count).count;
  };
}
