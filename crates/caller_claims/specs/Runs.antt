-- A list of calls on one unchanged unit at a port that C callers share, each handing bank, turn, list and counts to the next, and the tasks that it starts.
use Rattle.std.specs.Prelude.{ℕ, ◌+◌, Bool, cond, List, [], ◌∷◌, ◌++◌, replicate, Ok, Err, Some, None}
use Rattle.unit.specs.declared.FunctionUnit.{FunctionUnit}
use Rattle.unit.specs.Answers.{Answer}
use Rattle.controller.specs.declared.Bank.{Bank}
use Rattle.controller.specs.declared.Event.{Event}
use Rattle.controller.specs.Bank.{empty, step_of}
use Rattle.queue.specs.declared.Waiting.{Waiting}
use Rattle.queue.specs.Line.{no_record}
use Rattle.callers.specs.Served.{Served}
use Rattle.callers.specs.Queues.{count_of, with_count, waiting_of}
use Rattle.callers.specs.Calls.{arrival_of, arrival_list, unit_of, unit_list}

-- what is handed from call to call
pub record Port : Type 0 where
  pub bank : Bank
  pub turn : ℕ
  pub list : List Waiting
  pub counts : List ℕ

-- the records that wait at caller i
abbrev pub line_of : Port → ℕ → List Waiting
line_of p i = waiting_of p.list p.counts i

-- an arrival of a record at a caller's queue, or the passing of a time unit
pub data Call : Type 0 where
  arrival : ℕ → Waiting → Call
  unit : Call

-- one call; where it is refused, nothing changes
unfoldable pub after : FunctionUnit → ℕ → Port → Call → Port
after u C p (arrival i w) = record {
  bank = p.bank;
  turn = p.turn;
  list = arrival_list u C i p.list (count_of p.counts i) w;
  counts = with_count p.counts i (arrival_of u C i p.list (count_of p.counts i) w).count;
}
after u C p unit = record {
  bank = (unit_of u p.bank C p.turn p.list p.counts).bank;
  turn = (unit_of u p.bank C p.turn p.list p.counts).turn;
  list = unit_list u p.bank C p.turn p.list p.counts;
  counts = (unit_of u p.bank C p.turn p.list p.counts).counts.each;
}

-- what an arrival answers at a port, and a time unit
abbrev pub arrived_at : FunctionUnit → ℕ → Port → ℕ → Waiting → Answer
arrived_at u C p i w = (arrival_of u C i p.list (count_of p.counts i) w).answer

abbrev pub served_at : FunctionUnit → ℕ → Port → Served
served_at u C p = (unit_of u p.bank C p.turn p.list p.counts).answer

-- From empty: events on the bank, and calls, in any order, some of them refused

pub data Action : Type 0 where
  event : Event → Action
  call : Call → Action

unfoldable pub done : FunctionUnit → ℕ → Port → Action → Port
done u C p (event e) = record { bank = (step_of u p.bank e).bank; turn = p.turn; list = p.list; counts = p.counts }
done u C p (call k) = after u C p k

unfoldable pub done_all : FunctionUnit → ℕ → Port → List Action → Port
done_all u C p [] = p
done_all u C p (d ∷ actions) = done_all u C (done u C p d) actions

-- empty: an empty bank, any turn, and a lent list in which nothing waits
abbrev pub empty_port : ℕ → List Waiting → Port
empty_port turn list = record { bank = empty; turn = turn; list = list; counts = replicate 4 0 }

-- bank, turn, list and counts brought from empty
abbrev pub brought : FunctionUnit → ℕ → ℕ → List Waiting → List Action → Port
brought u C turn list actions = done_all u C (empty_port turn list) actions

-- From then on: calls alone

-- how many time units pass
unfoldable pub units_in : List Call → ℕ
units_in [] = 0
units_in (arrival i w ∷ calls) = units_in calls
units_in (unit ∷ calls) = units_in calls + 1

-- a record of a caller that was started, and the number of the time unit, counted from 1
pub record Start : Type 0 where
  pub caller : ℕ
  pub task : Waiting
  pub unit : ℕ

-- what stands past the end of the starts
abbrev pub no_start : Start
no_start = record { caller = 0; task = no_record; unit = 0 }

abbrev pub start_in : Served → ℕ → List Start
start_in (Ok (Some (i, w))) n = record { caller = i; task = w; unit = n } ∷ []
start_in (Ok None) n = []
start_in (Err why) n = []

-- the starts of a list of calls, the earliest first, where n time units have passed before
unfoldable pub starts : FunctionUnit → ℕ → Port → ℕ → List Call → List Start
starts u C p n [] = []
starts u C p n (arrival i w ∷ calls) = starts u C (after u C p (arrival i w)) n calls
starts u C p n (unit ∷ calls) = start_in (served_at u C p) (n + 1) ++ starts u C (after u C p unit) (n + 1) calls

-- those of the callers that pass a test
unfoldable pub starts_of : (ℕ → Bool) → List Start → List Start
starts_of f [] = []
starts_of f (s ∷ l) = cond (f s.caller) (s ∷ starts_of f l) (starts_of f l)
