-- The tasks that a list of events starts, and what it means that the controller grants exactly the starts that collide with none of them.
use Rattle.std.specs.Prelude.{ℕ, ◌+◌, ◌≡◌, true, ◌↔◌, Ok, Err}
use mathlib.Core.List.{List, [], ◌∷◌, Memᴰ}
use Rattle.unit.specs.declared.FunctionUnit.{FunctionUnit}
use Rattle.unit.specs.declared.Tag.{Tag}
use Rattle.unit.specs.Answers.{Answer}
use Rattle.unit.specs.Table.{Table}
use Rattle.unit.specs.Unit.{inside, marked, sound_of}
use Rattle.collision.specs.Pipeline.{Task, Clash}
use Rattle.controller.specs.declared.Bank.{Bank}
use Rattle.controller.specs.declared.Event.{Event}
use Rattle.controller.specs.declared.Event.TheVariants.{Tick, Start}
use Rattle.controller.specs.Bank.{empty, event_answer, step_of}

-- the present time unit, and the tasks that were granted, the latest first
pub record History : Type 0 where
  pub time : ℕ
  pub tasks : List Task

-- a task of q that starts now
abbrev pub task_now : History → ℕ → Task
task_now h q = record { tag = q; start = h.time }

-- an accepted event takes one time unit, and an accepted start adds its task
abbrev pub accepted : History → Event → History
accepted h Tick = record { time = h.time + 1; tasks = h.tasks }
accepted h (Start q) = record { time = h.time + 1; tasks = task_now h q.0 ∷ h.tasks }

-- a refused event takes no time and changes nothing
abbrev pub history_then : Answer → History → Event → History
history_then (Ok _) h e = accepted h e
history_then (Err why) h e = h

-- the bank, with the history that led to it
pub record Course : Type 0 where
  pub bank : Bank
  pub history : History

-- from an empty bank
abbrev pub outset : Course
outset = record { bank = empty; history = record { time = 0; tasks = [] } }

-- one event, with the answer and the bank of the call
abbrev pub next : FunctionUnit → Course → Event → Course
next u c e = record {
  bank = (step_of u c.bank e).bank;
  history = history_then (step_of u c.bank e).answer c.history e;
}

-- a list of events, the earliest first, on one unchanged unit
unfoldable pub played : FunctionUnit → Course → List Event → Course
played u c [] = c
played u c (e ∷ events) = played u (next u c e) events

abbrev pub bank_after : FunctionUnit → List Event → Bank
bank_after u events = (played u outset events).bank

abbrev pub history_after : FunctionUnit → List Event → History
history_after u events = (played u outset events).history

-- a task occupies no segment in a time unit in which one of the tasks does
abbrev pub Free : Table → Task → List Task → Type 0
Free T x tasks = (y : Task) → Memᴰ y tasks → Clash T y x → ⊥

-- no two of the tasks occupy one segment in one time unit
abbrev pub Apart : Table → List Task → Type 0
Apart T [] = Unit {0}
Apart T (x ∷ tasks) = Free T x tasks × Apart T tasks

-- for one unchanged unit, from an empty bank, a start of one of its functions is granted exactly when its task would collide with none
-- of those granted before it (`granted_exactly`, proofs/Demand2.antt)
abbrev pub GrantedExactly : Type 0
GrantedExactly =
    (u : FunctionUnit) → sound_of u ≡ true → (events : List Event) (q : Tag) → inside q.0 u.functions ≡ true
    → (event_answer u (bank_after u events) (Start q) ≡ Ok tt)
    ↔ Free (marked u) (task_now (history_after u events) q.0) (history_after u events).tasks

-- so that no segment ever serves two tasks in one time unit (`granted_apart`, proofs/Demand2.antt)
abbrev pub GrantedApart : Type 0
GrantedApart = (u : FunctionUnit) → sound_of u ≡ true → (events : List Event) → Apart (marked u) (history_after u events).tasks
