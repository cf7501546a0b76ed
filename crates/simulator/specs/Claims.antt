-- A plan that a search has found plays without end: after every list of calls, for every number of units. Proved in proofs/Claims.antt.
use Rattle.std.specs.Prelude.{ℕ, ◌+◌, ◌%◌, ◌<◌, ◌≡◌, true, false, ◌↔◌, List, [], ◌∷◌, Ok}
use Rattle.unit.specs.declared.Plan.{Plan}
use Rattle.unit.specs.declared.FunctionUnit.{FunctionUnit}
use Rattle.unit.specs.Unit.{good_counts, marked}
use Rattle.unit.specs.Calls.{fresh_of}
use Rattle.collision.specs.Pipeline.{Task, Clash, start_at}
use Rattle.controller.specs.declared.Event.TheVariants.{Tick, Start}
use Rattle.controller.specs.Bank.{step_of}
use Rattle.plan_record.specs.Write.{cycle_in}
use Rattle.planner.specs.Plans.{SearchPromise, read_of}
use Rattle.planner.specs.Sheet.{Call, Reply, Leaves}
use Rattle.planner.specs.Sheet.Call.{Mark, Unmark, Search, Read}
use Rattle.planner.specs.Sheet.Reply.{accepted}
use Rattle.simulator.specs.Step.{tag_of, bit_of}
use Rattle.simulator.specs.Play.{place_after, unit_after}

-- The unit after n units: no step is refused; with bit 0 it is a start of the plan's tag that the bank grants, with bit 1 a tick; and the ring is at n
-- modulo S.
pub record PlaysAt (u : FunctionUnit) (p : Plan) (n : ℕ) : Type 0 where
  pub position : (place_after u p n).position ≡ n % p.sum
  pub accepted : (unit_after u p n).answer ≡ Ok tt
  pub start : bit_of p (place_after u p n).position ≡ false
      → ((step_of u (place_after u p n).bank (Start (tag_of p))).answer ≡ Ok tt)
      × ((step_of u (place_after u p n).bank (Start (tag_of p))).bank ≡ (place_after u p (n + 1)).bank)
      × ((unit_after u p n).started ≡ true)
  pub tick : bit_of p (place_after u p n).position ≡ true
      → ((step_of u (place_after u p n).bank Tick).answer ≡ Ok tt)
      × ((step_of u (place_after u p n).bank Tick).bank ≡ (place_after u p (n + 1)).bank)
      × ((unit_after u p n).started ≡ false)

-- one of the cycle's starts, repeated without end, falls on n
pub record FallsOn (cycle : List ℕ) (n : ℕ) : Type 0 where
  pub index : ℕ
  pub start : start_at cycle index ≡ n

-- the task of the plan's tag that starts after n units
abbrev pub task_of : Plan → ℕ → Task
task_of p n = record { tag = p.tag; start = n }

-- for every number of units the next one plays; the starts are those of the cycle repeated without end, and no two of their tasks ever meet
pub record Plays (u : FunctionUnit) (p : Plan) : Type 0 where
  pub each : (n : ℕ) → PlaysAt u p n
  pub starts : (n : ℕ) → ((unit_after u p n).started ≡ true) ↔ FallsOn (cycle_in p) n
  pub apart : (m n : ℕ) → m < n → (unit_after u p m).started ≡ true → (unit_after u p n).started ≡ true → Clash (marked u) (task_of p m) (task_of p n) → ⊥

-- no edit among the calls was accepted
abbrev pub NoEdit : List Call → List Reply → Type 0
NoEdit [] replies = Unit {0}
NoEdit (k ∷ calls) [] = Unit {0}
NoEdit (Mark q s c ∷ calls) (a ∷ replies) = (a ≡ accepted → ⊥) × NoEdit calls replies
NoEdit (Unmark q s c ∷ calls) (a ∷ replies) = (a ≡ accepted → ⊥) × NoEdit calls replies
NoEdit (Search q room ∷ calls) (a ∷ replies) = NoEdit calls replies
NoEdit (Read ∷ calls) (a ∷ replies) = NoEdit calls replies

-- The plan came from an accepted search on a unit, whatever came before; the calls that followed left the unit that the bank uses.
pub record FoundPlan (p : Plan) (later : List Call) (told : List Reply) (left : FunctionUnit) : Type 0 where
  pub unit : FunctionUnit
  pub tag : ℕ
  pub before : List ℕ
  pub words : List ℕ
  pub found : FunctionUnit
  pub search : SearchPromise unit tag before words (Ok tt) found
  pub plan : p ≡ found.plan
  pub stays : Leaves found later told left

-- The designer's condition is this, and that no edit among those calls was accepted. Then the plan plays on the unit that is left.
abbrev pub EverySearchPlays : Type 0
EverySearchPlays = (p : Plan) (later : List Call) (told : List Reply) (left : FunctionUnit) → FoundPlan p later told left → NoEdit later told → Plays left p

-- The same by lists of calls from a fresh unit: after the first a read hands out the plan, and the second leaves the unit.
pub record HandedOut (p : Plan) (later : List Call) (told : List Reply) (left : FunctionUnit) : Type 0 where
  pub functions : ℕ
  pub segments : ℕ
  pub columns : ℕ
  pub good : good_counts functions segments columns ≡ true
  pub calls : List Call
  pub replies : List Reply
  pub unit : FunctionUnit
  pub leaves : Leaves (fresh_of functions segments columns).unit calls replies unit
  pub handed : read_of unit ≡ Ok p
  pub stays : Leaves unit later told left

abbrev pub EveryPlanPlays : Type 0
EveryPlanPlays = (p : Plan) (later : List Call) (told : List Reply) (left : FunctionUnit) → HandedOut p later told left → NoEdit later told → Plays left p
