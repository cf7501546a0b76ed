-- The tasks that the queue starts are granted by the issue controller: each time unit is one of the controller's events, so that what holds of every list
-- of events holds of the queue.
use Rattle.std.specs.Prelude.{◌+◌, ◌≡◌, ◌↔◌, List, [], ◌∷◌, ◌++◌, take, Ok, Err, Some, None}
use Rattle.unit.specs.declared.FunctionUnit.{FunctionUnit}
use Rattle.unit.specs.Unit.{marked}
use Rattle.controller.specs.declared.Event.{Event}
use Rattle.controller.specs.declared.Event.TheVariants.{Tick, Start}
use Rattle.controller.specs.Bank.{step_of}
use Rattle.controller.specs.History.{History, accepted, history_then, task_now, outset, bank_after, history_after, Free, Apart}
use Rattle.queue.specs.declared.Waiting.{Waiting}
use Rattle.queue.specs.Passed.{Passed}
use Rattle.queue.specs.Line.{tag_of}
use Rattle.queue.specs.Calls.{room, passed_of}
use Rattle.queue_claims.specs.Runs.{Port, Action, done, empty_port, brought}
use Rattle.queue_claims.specs.Runs.Call.{arrival, unit}
use Rattle.queue_claims.specs.Runs.Action.{event, call}

-- The tasks and the time, from what the calls answer

-- a time unit that started a record adds its task; one that was refused takes no time
abbrev pub unit_then : Passed → History → History
unit_then (Ok (Some w)) h = accepted h (Start (tag_of w))
unit_then (Ok None) h = accepted h Tick
unit_then (Err why) h = h

-- an event goes into the history by the controller's answer, and an arrival takes no time
unfoldable pub history_next : FunctionUnit → Port → History → Action → History
history_next u p h (event e) = history_then (step_of u p.bank e).answer h e
history_next u p h (call (arrival w)) = h
history_next u p h (call unit) = unit_then (passed_of room u p.bank p.list p.count) h

unfoldable pub history_from : FunctionUnit → Port → History → List Action → History
history_from u p h [] = h
history_from u p h (d ∷ actions) = history_from u (done u p d) (history_next u p h d) actions

-- of a list of actions from empty
abbrev pub tasks_after : FunctionUnit → List Waiting → List Action → History
tasks_after u list actions = history_from u (empty_port list) outset.history actions

-- The events of the controller that they are

abbrev pub unit_events : Passed → List Event
unit_events (Ok (Some w)) = Start (tag_of w) ∷ []
unit_events (Ok None) = Tick ∷ []
unit_events (Err why) = []

abbrev pub action_events : FunctionUnit → Port → Action → List Event
action_events u p (event e) = e ∷ []
action_events u p (call (arrival w)) = []
action_events u p (call unit) = unit_events (passed_of room u p.bank p.list p.count)

unfoldable pub events_from : FunctionUnit → Port → List Action → List Event
events_from u p [] = []
events_from u p (d ∷ actions) = action_events u p d ++ events_from u (done u p d) actions

abbrev pub events_of : FunctionUnit → List Waiting → List Action → List Event
events_of u list actions = events_from u (empty_port list) actions

-- Claims, for one unchanged unit from empty (proofs/Tasks.antt)

-- bank, time and tasks are those of the controller's events (`queue_plays`)
abbrev pub QueuePlays : Type 0
QueuePlays =
    (u : FunctionUnit) (list : List Waiting) (actions : List Action)
    → ((brought u list actions).bank ≡ bank_after u (events_of u list actions))
    × (tasks_after u list actions ≡ history_after u (events_of u list actions))

-- so that no segment ever serves two of the tasks in one time unit (`queue_apart`)
abbrev pub QueueApart : Type 0
QueueApart = (u : FunctionUnit) (list : List Waiting) (actions : List Action) → Apart (marked u) (tasks_after u list actions).tasks

-- and a time unit starts the oldest record exactly when its task would collide with none of those started before (`queue_exactly`)
abbrev pub QueueExactly : Type 0
QueueExactly =
    (u : FunctionUnit) (list : List Waiting) (actions : List Action) (w : Waiting) (line : List Waiting)
    → take (brought u list actions).count (brought u list actions).list ≡ w ∷ line
    → (passed_of room u (brought u list actions).bank (brought u list actions).list (brought u list actions).count ≡ Ok (Some w))
    ↔ Free (marked u) (task_now (tasks_after u list actions) w.tag) (tasks_after u list actions).tasks
