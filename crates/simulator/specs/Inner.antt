-- What the private functions ask and find. No public contract cites this file.
use Rattle.std.specs.Prelude.{ℕ, ◌<◌, ◌≡◌, Bool, true, false, ◌&&◌, ltb, Ok}
use Rattle.unit.specs.declared.Plan.{Plan}
use Rattle.unit.specs.declared.FunctionUnit.{FunctionUnit}
use Rattle.unit.specs.declared.Refusal.TheVariants.{BadRecord}
use Rattle.unit.specs.Answers.{Answer}
use Rattle.unit.specs.Calls.{check, tag_answer}
use Rattle.controller.specs.declared.Event.{Event}
use Rattle.controller.specs.declared.Event.TheVariants.{Tick, Start}
use Rattle.plan_record.specs.Write.{holds_cycle}

-- the event is a start
abbrev pub is_start : Event → Bool
is_start Tick = false
is_start (Start q) = true

-- a plan that a record holds, and a position before S
pub record OnRing (p : Plan) (i : ℕ) : Type 0 where
  pub holds : holds_cycle p ≡ true
  pub before : i < p.sum

-- of a unit that has the plan's tag
pub record Playable (u : FunctionUnit) (p : Plan) (i : ℕ) : Type 0 where
  pub tag : tag_answer u p.tag ≡ Ok tt
  pub ring : OnRing p i

-- 15 for the plan or the position
abbrev pub ring_answer : Plan → ℕ → Answer
ring_answer p i = check (holds_cycle p && ltb i p.sum) BadRecord (Ok tt)
