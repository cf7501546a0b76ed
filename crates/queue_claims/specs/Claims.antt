-- When a waiting task starts: within (k + 1) × (n + 1) time units, whatever arrives later.
use Rattle.std.specs.Prelude.{ℕ, ◌+◌, ◌*◌, ◌≤◌, ◌<◌, ◌≡◌, true, List, [], ◌∷◌, leb, ltb, length, get_or, take, Ok}
use Rattle.words.specs.Below.{least_from}
use Rattle.unit.specs.declared.FunctionUnit.{FunctionUnit}
use Rattle.unit.specs.declared.Refusal.TheVariants.{NotSound, NoSuchTag, ShortOutput, TooManyWait}
use Rattle.unit.specs.Unit.{inside, marked, sound_of}
use Rattle.unit.specs.Calls.{check}
use Rattle.collision.specs.Pipeline.{Collides}
use Rattle.collision.specs.Vector.{largest_column}
use Rattle.controller.specs.declared.Bank.{Bank}
use Rattle.controller.specs.Bank.{ticked, started, granted}
use Rattle.queue.specs.declared.Waiting.{Waiting}
use Rattle.queue.specs.Line.{no_record}
use Rattle.queue.specs.Calls.{room, arrival_answer, unit_answer}
use Rattle.queue_claims.specs.Runs.{Port, Call, Action, no_start, after, brought, units_in, starts}
use Rattle.queue_claims.specs.Runs.Call.{arrival, unit}

-- n is `largest_column` of the unit's table: column t of row q of the matrix M_r has a 1 where a task of q, started t after one of r, would collide with it

-- n is a column with a 1 in a matrix of the unit's functions, or 0, and no column with a 1 is larger
pub record OfTheMatrices (u : FunctionUnit) (n : ℕ) : Type 0 where
  pub most : (q r t : ℕ) → inside q u.functions ≡ true → inside r u.functions ≡ true → 1 ≤ t → Collides (marked u) q r t → t ≤ n
  pub reached : 1 ≤ n → (q r : ℕ) × (inside q u.functions ≡ true) × (inside r u.functions ≡ true) × Collides (marked u) q r n

-- (`column_of_tags`, proofs/ColumnLaws.antt)
abbrev pub LastColumn : Type 0
LastColumn = (u : FunctionUnit) → sound_of u ≡ true → OfTheMatrices u (largest_column (marked u))

-- When the records that wait start, from the bank and these records alone

-- after how many ticks the bank first grants a start of q; a register has 32 bits
unfoldable pub delay : Bank → ℕ → ℕ
delay b q = least_from 32 0 (λ d. granted (ticked d b) q)

-- the number of the time unit, counted from 1, that starts the last of these records, if they are the oldest: each starts as soon as the
-- bank grants it after those before it
unfoldable pub due_unit : FunctionUnit → Bank → List Waiting → ℕ
due_unit u b [] = 0
due_unit u b (w ∷ line) = delay b w.tag + 1 + due_unit u (started u w.tag (ticked (delay b w.tag) b)) line

-- the time unit that starts the record with k ahead of it at a port: the bank and the first k + 1 records decide it, and nothing that arrives later
abbrev pub due_at : FunctionUnit → Port → ℕ → ℕ
due_at u p k = due_unit u p.bank (take (k + 1) p.list)

-- The record w waits at a port with k ahead of it, and then there are these calls: it is the (k + 1)-th to start, in the time unit that bank and records
-- at the port give, and that unit is one of the first (k + 1) × (n + 1), n being the largest column with a 1 in any matrix, or 0
pub record InTurn (u : FunctionUnit) (p : Port) (k : ℕ) (w : Waiting) (calls : List Call) : Type 0 where
  pub within : due_at u p k ≤ (k + 1) * (largest_column (marked u) + 1)
  pub there : due_at u p k ≤ units_in calls → k < length (starts u p 0 calls)
  pub begins : due_at u p k ≤ units_in calls → get_or (starts u p 0 calls) k no_start ≡ record { task = w; unit = due_at u p k }
  pub waits : units_in calls < due_at u p k → length (starts u p 0 calls) ≤ k

-- For one unchanged unit, bank and list brought from empty by its events and these calls, and by these calls alone from then on (proofs/InTurn.antt):

-- every task that waits with k ahead of it (`waits_in_turn`)
abbrev pub WaitsInTurn : Type 0
WaitsInTurn =
    (u : FunctionUnit) (list : List Waiting) (actions : List Action) (k : ℕ) → k < (brought u list actions).count
    → (calls : List Call) → InTurn u (brought u list actions) k (get_or (brought u list actions).list k no_record) calls

-- and so every task from its arrival on, if that is accepted (`starts_in_turn`)
abbrev pub StartsInTurn : Type 0
StartsInTurn =
    (u : FunctionUnit) (list : List Waiting) (actions : List Action) (w : Waiting)
    → arrival_answer room u (brought u list actions).list (brought u list actions).count w ≡ Ok tt
    → (calls : List Call) → InTurn u (after u (brought u list actions) (arrival w)) (brought u list actions).count w calls

-- Later arrivals can't alter a start

-- the time units alone, as if nothing arrived
unfoldable pub units_alone : List Call → List Call
units_alone [] = []
units_alone (arrival w ∷ calls) = units_alone calls
units_alone (unit ∷ calls) = unit ∷ units_alone calls

-- the start of a task that waits, or that there is none yet, is the same without them (`unaltered`, proofs/InTurn.antt)
abbrev pub Unaltered : Type 0
Unaltered =
    (u : FunctionUnit) (list : List Waiting) (actions : List Action) (k : ℕ) → k < (brought u list actions).count
    → (calls : List Call)
    → get_or (starts u (brought u list actions) 0 calls) k no_start ≡ get_or (starts u (brought u list actions) 0 (units_alone calls)) k no_start

-- Refusals

-- no time unit is refused but for the unit and the list, and no arrival but for these, for the tag offered, and where 32 wait
pub record Steady (u : FunctionUnit) (p : Port) : Type 0 where
  pub units : unit_answer room u p.list p.count ≡ check (sound_of u) NotSound (check (leb room (length p.list)) ShortOutput (Ok tt))
  pub arrivals : (w : Waiting) → arrival_answer room u p.list p.count w
      ≡ check (sound_of u) NotSound
      (check (leb room (length p.list)) ShortOutput
      (check (inside w.tag u.functions) NoSuchTag
      (check (ltb p.count room) TooManyWait (Ok tt))))

-- so it is from empty on: neither a count above 32 nor a waiting tag that is not the unit's ever comes up (`stays_steady`, proofs/Steady.antt)
abbrev pub StaysSteady : Type 0
StaysSteady = (u : FunctionUnit) (list : List Waiting) (actions : List Action) → Steady u (brought u list actions)
