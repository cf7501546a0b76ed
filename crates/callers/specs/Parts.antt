-- The calls on records by value: those of the first queues of a list, of which only the length is known besides. The calls on a lent list and on a port as a
-- value are made of these.
use Rattle.std.specs.Prelude.{ℕ, ◌-◌, ◌*◌, List, leb, take, drop}
use Rattle.unit.specs.declared.FunctionUnit.{FunctionUnit}
use Rattle.unit.specs.Answers.{Answer}
use Rattle.controller.specs.declared.Bank.{Bank}
use Rattle.queue.specs.declared.Waiting.{Waiting}
use Rattle.queue.specs.Passed.{Passed}
use Rattle.queue.specs.Line.{tags_inside}
use Rattle.queue.specs.Calls.{arrival_by, count_then, list_then, oldest, passed_then}
use Rattle.callers.specs.declared.ArrivalOn.{ArrivalOn}
use Rattle.callers.specs.declared.UnitOn.{UnitOn}
use Rattle.callers.specs.Turn.{each_caller}
use Rattle.callers.specs.Queues.{room, place_of, queue_of, with_queue, count_of, waiting_of}
use Rattle.callers.specs.Calls.{caller_first, queue_tests, caller_of, turned_by, list_by}

-- The tests, by the length of the list and the records

abbrev pub arrival_in : FunctionUnit → ℕ → ℕ → ℕ → List Waiting → ℕ → ℕ → Answer
arrival_in u C i length list count tag =
    caller_first u C i (arrival_by room u (length - place_of i) count tag (tags_inside u.functions (take count (drop (place_of i) list))))

abbrev pub unit_in : FunctionUnit → ℕ → ℕ → ℕ → List Waiting → List ℕ → Answer
unit_in u C turn length list counts =
    caller_first u C turn
    (queue_tests
    (leb (room * C) length)
    (each_caller C (λ i. leb (count_of counts i) room))
    (each_caller C (λ i. tags_inside u.functions (take (count_of counts i) (drop (place_of i) list)))))

-- What is done with the records

-- an arrival at caller i that is answered so
abbrev pub arrival_on_by : ℕ → List Waiting → ℕ → Waiting → Answer → ArrivalOn
arrival_on_by i list count offered a = record {
  arrival = record { answer = a; count = count_then a count };
  records = record { list = with_queue list i (list_then a (queue_of list i) count offered) };
}

-- a time unit in which caller i had its turn, and this was done
abbrev pub on_by : FunctionUnit → Bank → ℕ → ℕ → List Waiting → List ℕ → ℕ → Passed → UnitOn
on_by u b C turn list counts i a = record {
  turned = turned_by u b C turn counts i a;
  records = record { list = list_by list counts i a };
}

-- the time unit that is answered so by the tests
abbrev pub unit_on_by : FunctionUnit → Bank → ℕ → ℕ → List Waiting → List ℕ → Answer → UnitOn
unit_on_by u b C turn list counts a =
    on_by u b C turn list counts (caller_of C turn counts) (passed_then a (oldest b (waiting_of list counts (caller_of C turn counts))))
