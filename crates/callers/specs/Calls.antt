-- What an arrival and a time unit answer at a port that C callers share, and the list, the counts, the bank and the turn that they leave. What lies beyond
-- caller C's queue is neither read nor changed.
use Rattle.std.specs.Prelude.{ℕ, Bool, ◌&&◌, List, leb, length, replicate, Ok, Err, Some, None}
use Rattle.unit.specs.declared.FunctionUnit.{FunctionUnit}
use Rattle.unit.specs.declared.Refusal.TheVariants.{NotSound, NoSuchTag, ShortOutput, TooManyWait, NoSuchCaller}
use Rattle.unit.specs.Answers.{Answer}
use Rattle.unit.specs.Unit.{inside, sound_of}
use Rattle.unit.specs.Calls.{check}
use Rattle.controller.specs.declared.Bank.{Bank}
use Rattle.queue.specs.declared.Waiting.{Waiting}
use Rattle.queue.specs.declared.Arrival.{Arrival}
use Rattle.queue.specs.Passed.{Passed}
use Rattle.queue.specs.Line.{no_record, tags_inside}
use Rattle.queue.specs.Calls.{arrival_answer, count_then, list_then, oldest, passed_then, bank_then, fewer, list_after}
use Rattle.callers.specs.Served.{Served}
use Rattle.callers.specs.declared.Turned.{Turned}
use Rattle.callers.specs.declared.Shared.{Shared}
use Rattle.callers.specs.declared.Called.{Called}
use Rattle.callers.specs.declared.Taken.{Taken}
use Rattle.callers.specs.Turn.{each_caller, next_turn, turn_now}
use Rattle.callers.specs.Queues.{room, queue_of, with_queue, count_of, with_count, waiting_of, has_work}

-- there are 1 to 4 callers, and i is one of them
abbrev pub one_of : ℕ → ℕ → Bool
one_of C i = inside C 4 && inside i C

-- what each call tries first: 1; 18 for C, or for a caller or a turn that is none of them
abbrev pub caller_first : FunctionUnit → ℕ → ℕ → Answer → Answer
caller_first u C i next = check (sound_of u) NotSound (check (one_of C i) NoSuchCaller next)

-- An arrival tests C, its own caller and its queue only: then as in a single queue with room for 8

unfoldable pub arrival_at : FunctionUnit → ℕ → ℕ → List Waiting → ℕ → Waiting → Answer
arrival_at u C i queue count offered = caller_first u C i (arrival_answer room u queue count offered)

-- an accepted arrival waits behind the caller's others; it does not move the turn
unfoldable pub arrival_of : FunctionUnit → ℕ → ℕ → List Waiting → ℕ → Waiting → Arrival
arrival_of u C i list count offered = record {
  answer = arrival_at u C i (queue_of list i) count offered;
  count = count_then (arrival_at u C i (queue_of list i) count offered) count;
}

-- the list afterwards
unfoldable pub arrival_list : FunctionUnit → ℕ → ℕ → List Waiting → ℕ → Waiting → List Waiting
arrival_list u C i list count offered = with_queue list i (list_then (arrival_at u C i (queue_of list i) count offered) (queue_of list i) count offered)

-- A time unit tests the turn and all C queues: then 6 where a queue is not all in the list; 14 for a count above 8; 2 for the tag of any waiting record

abbrev pub queue_tests : Bool → Bool → Bool → Answer
queue_tests long few fit = check long ShortOutput (check few TooManyWait (check fit NoSuchTag (Ok tt)))

unfoldable pub unit_at : FunctionUnit → ℕ → ℕ → List Waiting → List ℕ → Answer
unit_at u C turn list counts =
    caller_first u C turn
    (queue_tests
    (each_caller C (λ i. leb room (length (queue_of list i))))
    (each_caller C (λ i. leb (count_of counts i) room))
    (each_caller C (λ i. tags_inside u.functions (waiting_of list counts i))))

-- whose turn it is in this unit
abbrev pub caller_of : ℕ → ℕ → List ℕ → ℕ
caller_of C turn counts = turn_now C (has_work counts) turn

-- only that caller may start: its oldest record is started if the bank grants it; otherwise, and with no work anywhere, the unit is a tick
unfoldable pub passed_at : FunctionUnit → Bank → ℕ → ℕ → List Waiting → List ℕ → Passed
passed_at u b C turn list counts = passed_then (unit_at u C turn list counts) (oldest b (waiting_of list counts (caller_of C turn counts)))

-- the answer: the caller and the record started, or that none was
abbrev pub served_by : ℕ → Passed → Served
served_by i (Ok (Some w)) = Ok (Some (i, w))
served_by i (Ok None) = Ok None
served_by i (Err why) = Err why

-- a start leaves one record less in its caller's queue
abbrev pub counts_then : Passed → List ℕ → ℕ → List ℕ
counts_then a counts i = with_count counts i (fewer a (count_of counts i))

-- after a start the turn goes round, by the queues as the start leaves them; without one it stays with the caller whose turn it was in this unit; a refused
-- unit leaves it where it was
abbrev pub turn_then : ℕ → Passed → List ℕ → ℕ → ℕ → ℕ
turn_then C (Ok (Some w)) counts i before = next_turn C (has_work counts) i
turn_then C (Ok None) counts i before = i
turn_then C (Err why) counts i before = before

-- what is left where caller i had its turn and this was done
abbrev pub turned_by : FunctionUnit → Bank → ℕ → ℕ → List ℕ → ℕ → Passed → Turned
turned_by u b C turn counts i a = record {
  answer = served_by i a;
  bank = bank_then u a b;
  turn = turn_then C a (counts_then a counts i) i turn;
  counts = record { each = counts_then a counts i };
}

unfoldable pub unit_of : FunctionUnit → Bank → ℕ → ℕ → List Waiting → List ℕ → Turned
unit_of u b C turn list counts = turned_by u b C turn counts (caller_of C turn counts) (passed_at u b C turn list counts)

-- the list afterwards
abbrev pub list_by : List Waiting → List ℕ → ℕ → Passed → List Waiting
list_by list counts i a = with_queue list i (list_after a (queue_of list i) (count_of counts i))

unfoldable pub unit_list : FunctionUnit → Bank → ℕ → ℕ → List Waiting → List ℕ → List Waiting
unit_list u b C turn list counts = list_by list counts (caller_of C turn counts) (passed_at u b C turn list counts)

-- A port as a value: its list has 32 records, and an arrival and a time unit answer and leave the same

-- the turn is caller 1's, and nothing waits
abbrev pub empty_shared : ℕ → Shared
empty_shared C = record { callers = C; turn = 1; list = replicate 32 no_record; counts = record { each = replicate 4 0 } }

abbrev pub call_of : FunctionUnit → Shared → ℕ → Waiting → Called
call_of u s i offered = record {
  answer = (arrival_of u s.callers i s.list (count_of s.counts.each i) offered).answer;
  shared = record {
    callers = s.callers;
    turn = s.turn;
    list = arrival_list u s.callers i s.list (count_of s.counts.each i) offered;
    counts = record { each = with_count s.counts.each i (arrival_of u s.callers i s.list (count_of s.counts.each i) offered).count };
  };
}

abbrev pub taken_of : FunctionUnit → Bank → Shared → Taken
taken_of u b s = record {
  answer = (unit_of u b s.callers s.turn s.list s.counts.each).answer;
  bank = (unit_of u b s.callers s.turn s.list s.counts.each).bank;
  shared = record {
    callers = s.callers;
    turn = (unit_of u b s.callers s.turn s.list s.counts.each).turn;
    list = unit_list u b s.callers s.turn s.list s.counts.each;
    counts = (unit_of u b s.callers s.turn s.list s.counts.each).counts;
  };
}
