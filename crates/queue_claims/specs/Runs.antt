-- A list of calls on one unchanged unit, each handing bank, list and count to the next, and the tasks that it starts.
use Rattle.std.specs.Prelude.{ℕ, ◌+◌, List, [], ◌∷◌, ◌++◌, Ok, Err, Some, None}
use Rattle.unit.specs.declared.FunctionUnit.{FunctionUnit}
use Rattle.controller.specs.declared.Bank.{Bank}
use Rattle.controller.specs.declared.Event.{Event}
use Rattle.controller.specs.Bank.{empty, step_of}
use Rattle.queue.specs.declared.Waiting.{Waiting}
use Rattle.queue.specs.Passed.{Passed}
use Rattle.queue.specs.Line.{no_record}
use Rattle.queue.specs.Calls.{room, arrival_of, arrival_list, passed_of, pass_of, pass_list}

-- what is handed from call to call
pub record Port : Type 0 where
  pub bank : Bank
  pub list : List Waiting
  pub count : ℕ

-- an arrival of a record, or the passing of a time unit
pub data Call : Type 0 where
  arrival : Waiting → Call
  unit : Call

-- one call; where it is refused, nothing changes
unfoldable pub after : FunctionUnit → Port → Call → Port
after u p (arrival w) = record {
  bank = p.bank;
  list = arrival_list room u p.list p.count w;
  count = (arrival_of room u p.list p.count w).count;
}
after u p unit = record {
  bank = (pass_of room u p.bank p.list p.count).bank;
  list = pass_list room u p.bank p.list p.count;
  count = (pass_of room u p.bank p.list p.count).count;
}

-- From empty: events on the bank, and calls, in any order, some of them refused

pub data Action : Type 0 where
  event : Event → Action
  call : Call → Action

unfoldable pub done : FunctionUnit → Port → Action → Port
done u p (event e) = record { bank = (step_of u p.bank e).bank; list = p.list; count = p.count }
done u p (call k) = after u p k

unfoldable pub done_all : FunctionUnit → Port → List Action → Port
done_all u p [] = p
done_all u p (d ∷ actions) = done_all u (done u p d) actions

-- empty: an empty bank, and a lent list in which nothing waits
abbrev pub empty_port : List Waiting → Port
empty_port list = record { bank = empty; list = list; count = 0 }

-- bank and list brought from empty
abbrev pub brought : FunctionUnit → List Waiting → List Action → Port
brought u list actions = done_all u (empty_port list) actions

-- From then on: calls alone

-- how many time units pass
unfoldable pub units_in : List Call → ℕ
units_in [] = 0
units_in (arrival w ∷ calls) = units_in calls
units_in (unit ∷ calls) = units_in calls + 1

-- a record that was started, and the number of the time unit, counted from 1
pub record Start : Type 0 where
  pub task : Waiting
  pub unit : ℕ

-- what stands past the end of the starts
abbrev pub no_start : Start
no_start = record { task = no_record; unit = 0 }

abbrev pub start_in : Passed → ℕ → List Start
start_in (Ok (Some w)) n = record { task = w; unit = n } ∷ []
start_in (Ok None) n = []
start_in (Err why) n = []

-- the starts of a list of calls, the earliest first, where n time units have passed before
unfoldable pub starts : FunctionUnit → Port → ℕ → List Call → List Start
starts u p n [] = []
starts u p n (arrival w ∷ calls) = starts u (after u p (arrival w)) n calls
starts u p n (unit ∷ calls) = start_in (passed_of room u p.bank p.list p.count) (n + 1) ++ starts u (after u p unit) (n + 1) calls
