-- The tasks that a shared port starts are granted by the issue controller: each time unit is one of the controller's events, so that what holds of every list
-- of events holds of the port.
use Rattle.std.specs.Prelude.{ℕ, ◌*◌, ◌≤◌, ◌≡◌, true, ◌↔◌, List, [], ◌∷◌, ◌++◌, length, Ok, Some}
use Rattle.unit.specs.declared.FunctionUnit.{FunctionUnit}
use Rattle.unit.specs.Unit.{marked}
use Rattle.controller.specs.declared.Event.{Event}
use Rattle.controller.specs.Bank.{step_of}
use Rattle.controller.specs.History.{History, history_then, task_now, outset, bank_after, history_after, Free, Apart}
use Rattle.queue.specs.declared.Waiting.{Waiting}
use Rattle.queue.specs.Passed.{Passed}
use Rattle.queue_claims.specs.Tasks.{unit_then, unit_events}
use Rattle.callers.specs.Queues.{room}
use Rattle.callers.specs.Calls.{one_of, caller_of, passed_at}
use Rattle.caller_claims.specs.Runs.{Port, Action, line_of, served_at, done, empty_port, brought}
use Rattle.caller_claims.specs.Runs.Call.{arrival, unit}
use Rattle.caller_claims.specs.Runs.Action.{event, call}

-- What a time unit does at a port, and whose turn it is

abbrev pub passed_in : FunctionUnit → ℕ → Port → Passed
passed_in u C p = passed_at u p.bank C p.turn p.list p.counts

abbrev pub caller_in : ℕ → Port → ℕ
caller_in C p = caller_of C p.turn p.counts

-- The tasks and the time, from what the calls do

-- an event goes into the history by the controller's answer, and an arrival takes no time
unfoldable pub history_next : FunctionUnit → ℕ → Port → History → Action → History
history_next u C p h (event e) = history_then (step_of u p.bank e).answer h e
history_next u C p h (call (arrival i w)) = h
history_next u C p h (call unit) = unit_then (passed_in u C p) h

unfoldable pub history_from : FunctionUnit → ℕ → Port → History → List Action → History
history_from u C p h [] = h
history_from u C p h (d ∷ actions) = history_from u C (done u C p d) (history_next u C p h d) actions

-- of a list of actions from empty
abbrev pub tasks_after : FunctionUnit → ℕ → ℕ → List Waiting → List Action → History
tasks_after u C turn list actions = history_from u C (empty_port turn list) outset.history actions

-- The events of the controller that they are

abbrev pub action_events : FunctionUnit → ℕ → Port → Action → List Event
action_events u C p (event e) = e ∷ []
action_events u C p (call (arrival i w)) = []
action_events u C p (call unit) = unit_events (passed_in u C p)

unfoldable pub events_from : FunctionUnit → ℕ → Port → List Action → List Event
events_from u C p [] = []
events_from u C p (d ∷ actions) = action_events u C p d ++ events_from u C (done u C p d) actions

abbrev pub events_of : FunctionUnit → ℕ → ℕ → List Waiting → List Action → List Event
events_of u C turn list actions = events_from u C (empty_port turn list) actions

-- Claims, for one unchanged unit from empty (proofs/Tasks.antt)

-- bank, time and tasks are those of the controller's events (`callers_play`)
abbrev pub CallersPlay : Type 0
CallersPlay =
    (u : FunctionUnit) (C turn : ℕ) (list : List Waiting) (actions : List Action)
    → ((brought u C turn list actions).bank ≡ bank_after u (events_of u C turn list actions))
    × (tasks_after u C turn list actions ≡ history_after u (events_of u C turn list actions))

-- so that no segment ever serves two of the tasks in one time unit, of one caller or of two (`callers_apart`)
abbrev pub CallersApart : Type 0
CallersApart = (u : FunctionUnit) (C turn : ℕ) (list : List Waiting) (actions : List Action) → Apart (marked u) (tasks_after u C turn list actions).tasks

-- and a time unit starts the oldest record of the caller whose turn it is exactly when its task would collide with none of those started before; the turn at
-- the beginning names a caller, and the list holds all C queues (`callers_exactly`)
abbrev pub CallersExactly : Type 0
CallersExactly =
    (u : FunctionUnit) (C turn : ℕ) → one_of C turn ≡ true → (list : List Waiting) → room * C ≤ length list → (actions : List Action)
    → (w : Waiting) (line : List Waiting) → line_of (brought u C turn list actions) (caller_in C (brought u C turn list actions)) ≡ w ∷ line
    → (served_at u C (brought u C turn list actions) ≡ Ok (Some ((caller_in C (brought u C turn list actions)), w)))
    ↔ Free (marked u) (task_now (tasks_after u C turn list actions) w.tag) (tasks_after u C turn list actions).tasks
